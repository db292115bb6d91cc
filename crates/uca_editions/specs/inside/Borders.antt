-- Where ranges begin, and where they have ended.
use Rattle.std.specs.Prelude.{ℕ, ◌+◌, ◌<◌, List, Option, MatchOption, IsTrue, Contains, ⊤}
use Rattle.std.specs.Char.{IsScalar}
use Rattle.std.specs.List.{AllByRecursion}
use Rattle.uca_values.specs.declared.ClassRange.{ClassRange}
use Rattle.uca_values.specs.declared.CodePointRange.{CodePointRange}
use Rattle.uca_values.specs.declared.ImplicitRange.{ImplicitRange}
use Rattle.uca_values.specs.Content.{DataContent}
use Rattle.uca_values.specs.Ranges.{is_within}

-- the list has the first code point of each range, and the one after its last
abbrev pub HasBorders : {X : Type 0} → (X → ℕ) → (X → ℕ) → List ℕ → List X → Type 0
HasBorders first last points ranges =
    AllByRecursion (λ r. Contains points (first r) × (IsScalar (last r + 1) → Contains points (last r + 1))) ranges

-- the list has these now, and those that it had
pub record AddsBorders {X : Type 0} (first last : X → ℕ) (ranges : List X) (old new : List ℕ) : Type 0 where
  pub kept : (point : ℕ) → Contains old point → Contains new point
  pub added : HasBorders first last new ranges

-- the list has the first code point, and the first after the surrogates
pub record HasFirsts (points : List ℕ) : Type 0 where
  pub zero : Contains points 0
  pub after : Contains points 0xE000

-- the list has the borders of the ranges of two headers and of changed ranges
pub record HasPairBorders (old new : List ImplicitRange) (ranges : List CodePointRange) (points : List ℕ) : Type 0 where
  pub firsts : HasFirsts points
  pub old_ranges : HasBorders (λ (r : ImplicitRange). r.first) (λ r. r.last) points old
  pub new_ranges : HasBorders (λ (r : ImplicitRange). r.first) (λ r. r.last) points new
  pub changed : HasBorders (λ (r : CodePointRange). r.first) (λ r. r.last) points ranges

-- the list has the borders of the ranges of a data file
pub record HasDataBorders (data_content : DataContent) (points : List ℕ) : Type 0 where
  pub classes : HasBorders (λ (r : ClassRange). r.first) (λ r. r.last) points data_content.classes
  pub core : HasBorders (λ (r : CodePointRange). r.first) (λ r. r.last) points data_content.core
  pub other : HasBorders (λ (r : CodePointRange). r.first) (λ r. r.last) points data_content.other

-- the list has the borders of the ranges of two data files and of changed ranges
pub record HasPointBorders (old new : DataContent) (ranges : List CodePointRange) (points : List ℕ) : Type 0 where
  pub firsts : HasFirsts points
  pub old_data : HasDataBorders old points
  pub new_data : HasDataBorders new points
  pub changed : HasBorders (λ (r : CodePointRange). r.first) (λ r. r.last) points ranges

-- what a code point keeps that is not in the ranges
abbrev pub IfOutside : List CodePointRange → (ℕ → Type 0) → ℕ → Type 0
IfOutside ranges P point = ¬ (IsTrue (is_within ranges point)) → P point

-- the least of the code points without the property, if there is one
abbrev pub FindsLeast : (ℕ → Type 0) → List ℕ → Option ℕ → Type 0
FindsLeast P points found = MatchOption found (AllByRecursion P points)
    (λ least. IsScalar least × ¬ (P least) × AllByRecursion (λ point. point < least → P point) points)

-- the code point is less than the least so far, if there is one
abbrev pub IsBelow : ℕ → Option ℕ → Type 0
IsBelow point found = MatchOption found ⊤ (λ least. point < least)
