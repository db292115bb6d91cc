-- Texts by value, and Normalization Form D.
use Rattle.std.specs.Prelude.{◌≡◌, ℕ, List, false}
use Rattle.unicode_normalization.specs.Forms.{nfd}
use Rattle.uca_numbers.specs.Texts.{by_value, has_digit}

-- a text may be written by value before it is put into Normalization Form D, or after
abbrev pub NumbersMayBeWrittenFirst : Type 0
NumbersMayBeWrittenFirst = (points : List ℕ) → nfd (by_value points) ≡ by_value (nfd points)

-- a text that has no digit has none in Normalization Form D, so there it is the same by value
abbrev pub TextsWithoutDigitsStay : Type 0
TextsWithoutDigitsStay = (points : List ℕ) → has_digit points ≡ false → by_value (nfd points) ≡ nfd points
