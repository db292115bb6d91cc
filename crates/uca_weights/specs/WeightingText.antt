-- The name of a weighting (UTS #10, section 4).
use Rattle.std.specs.Prelude.{◌≢◌, ℕ, List, codes}
use Rattle.uca_weights.specs.declared.Weighting.{Weighting}
use Rattle.uca_weights.specs.declared.Weighting.TheVariants.{NonIgnorable, Shifted}

abbrev pub weighting_text : Weighting → List ℕ
weighting_text NonIgnorable = codes "non-ignorable"
weighting_text Shifted = codes "shifted"

-- it is the name of no weighting
abbrev pub IsNoWeighting : List ℕ → Type 0
IsNoWeighting word = (word ≢ weighting_text NonIgnorable) × (word ≢ weighting_text Shifted)
