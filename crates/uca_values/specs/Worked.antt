-- Implicit weights of some code points, worked out.
use Rattle.std.specs.Prelude.{◌≡◌, List, [], ◌∷◌, ℕ, false}
use Rattle.uca_values.specs.declared.ImplicitRange.{ImplicitRange}
use Rattle.uca_values.specs.Content.{DataContent, properties_of}
use Rattle.uca_values.specs.Implicit.{implicit}

-- Tangut, and as in Unicode's table a second range with its lead; U+18AFF is in the first one here
abbrev pub worked_ranges : List ImplicitRange
worked_ranges =
    record { first = 0x1_7000; last = 0x1_8AFF; lead = 0xFB00 } ∷
    record { first = 0x1_8D00; last = 0x1_8D08; lead = 0xFB00 } ∷ []

abbrev pub worked_data : DataContent
worked_data = record {
  classes = [];
  core = record { first = 0x4E00; last = 0x9FFF } ∷ [];
  other = record { first = 0x2_0000; last = 0x2_0FFF } ∷ [];
}

-- the code point has the elements `[.AAAA.0020.0002][.BBBB.0000.0000]`
abbrev pub HasImplicitWeights : ℕ → ℕ → ℕ → Type 0
HasImplicitWeights point a b =
    implicit worked_ranges (properties_of worked_data) point
    ≡ record { primary = a; secondary = 0x20; tertiary = 2; mark = false } ∷ record { primary = b; secondary = 0; tertiary = 0; mark = false } ∷ []

pub record WorkedImplicitWeights : Type 0 where
  pub first_of_range : HasImplicitWeights 0x1_7000 0xFB00 0x8000
  -- the base is that of the lead, and not of the range
  pub second_range : HasImplicitWeights 0x1_8D00 0xFB00 0x9D00
  pub core_han : HasImplicitWeights 0x4E00 0xFB40 0xCE00
  pub other_han : HasImplicitWeights 0x2_0000 0xFB84 0x8000
  pub any_other : HasImplicitWeights 0x10_FFFF 0xFBE1 0xFFFF
