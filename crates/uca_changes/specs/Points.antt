-- Code points outside of changed ranges: what is the same for two tables or for two data files.
use Rattle.std.specs.Prelude.{◌≡◌, ℕ, ◌<◌, List, [], Option, MatchOption, IsTrue}
use Rattle.std.specs.Char.{IsScalar}
use Rattle.uca_weights.specs.declared.Element.{Element}
use Rattle.uca_values.specs.declared.CodePointRange.{CodePointRange}
use Rattle.uca_values.specs.declared.ImplicitRange.{ImplicitRange}
use Rattle.uca_values.specs.Content.{Properties}
use Rattle.uca_values.specs.Implicit.{lead_of, pair_by_lead}
use Rattle.uca_values.specs.Ranges.{is_within}

-- the implicit weights of a code point by the ranges of a header alone; none where no range contains it
abbrev pub range_pair : List ImplicitRange → ℕ → List Element
range_pair ranges point = pair_by_lead ranges (lead_of ranges point) [] point

-- they are the same by the ranges of two headers
abbrev pub IsSamePair : List ImplicitRange → List ImplicitRange → ℕ → Type 0
IsSamePair old new point = range_pair old point ≡ range_pair new point

-- a code point is the same for both data files
pub record IsSamePoint (old new : Properties) (point : ℕ) : Type 0 where
  pub class : old.class point ≡ new.class point
  pub core : old.is_core point ≡ new.is_core point
  pub other : old.is_other point ≡ new.is_other point

-- what is true of each code point outside of the ranges
abbrev pub OutsideOf : List CodePointRange → (ℕ → Type 0) → Type 0
OutsideOf ranges P = (point : ℕ) → IsScalar point → ¬ (IsTrue (is_within ranges point)) → P point

-- the code point is the first outside of the ranges without the property
pub record IsFirstOutsideWithout (ranges : List CodePointRange) (P : ℕ → Type 0) (point : ℕ) : Type 0 where
  pub scalar : IsScalar point
  pub outside : ¬ (IsTrue (is_within ranges point))
  pub without : ¬ (P point)
  pub earlier : (other : ℕ) → other < point → IsScalar other → ¬ (IsTrue (is_within ranges other)) → P other

-- the first code point outside of the ranges without the property, if there is one
abbrev pub FindsFirstOutside : List CodePointRange → (ℕ → Type 0) → Option ℕ → Type 0
FindsFirstOutside ranges P found = MatchOption found (OutsideOf ranges P) (IsFirstOutsideWithout ranges P)
