-- Normalization Form D keeps Unicode scalar values.
use Rattle.std.specs.Prelude.{◌≡◌, ℕ, List, true}
use Rattle.std.specs.Str.{all_scalars}
use Rattle.unicode_normalization.specs.Forms.{nfd}

-- a code point that a scalar value decomposes to is one
abbrev pub NormalFormsHaveScalars : Type 0
NormalFormsHaveScalars = (points : List ℕ) → all_scalars points ≡ true → all_scalars (nfd points) ≡ true
