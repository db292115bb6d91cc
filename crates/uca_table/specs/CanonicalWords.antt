-- The words in the lines of a table before its rows (UTS #10, section 9.1).
use Rattle.std.specs.Prelude.{ℕ, List, codes}
use Rattle.uca_weights.specs.declared.Weighting.{Weighting}
use Rattle.uca_weights.specs.declared.Weighting.TheVariants as weightings

abbrev pub at_version : List ℕ
at_version = codes "@version"

abbrev pub at_variable : List ℕ
at_variable = codes "@variable"

abbrev pub at_ranges : List ℕ
at_ranges = codes "@implicitweights"

abbrev pub setting_word : Weighting → List ℕ
setting_word weightings.NonIgnorable = codes "non-ignorable"
setting_word weightings.Shifted = codes "shifted"
