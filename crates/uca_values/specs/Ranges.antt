-- Ranges of code points, and the classes that they give.
use Rattle.std.specs.Prelude.{ℕ, Bool, false, ◌<◌, ◌≤◌, List, [], ◌∷◌, ◌&&◌, ◌||◌, nat_le, ⊤, if◌then◌else◌}
use Rattle.std.specs.List.{AllByRecursion}
use Rattle.uca_values.specs.declared.ClassRange.{ClassRange}
use Rattle.uca_values.specs.declared.CodePointRange.{CodePointRange}

-- whether the code point is from `first` to `last`
abbrev pub is_between : ℕ → ℕ → ℕ → Bool
is_between first last point = nat_le first point && nat_le point last

-- whether one of the ranges contains the code point
abbrev pub is_within : List CodePointRange → ℕ → Bool
is_within [] point = false
is_within (r ∷ ranges) point = is_between r.first r.last point || is_within ranges point

-- the class of the range that contains the code point, or else 0
abbrev pub class_in : List ClassRange → ℕ → ℕ
class_in [] point = 0
class_in (r ∷ ranges) point = if is_between r.first r.last point then r.class else class_in ranges point

-- no range is empty, and each ends before the next begins
abbrev pub RiseBy : {X : Type 0} → (X → ℕ) → (X → ℕ) → List X → Type 0
RiseBy first last [] = ⊤
RiseBy first last (r ∷ ranges) = (first r ≤ last r) × AllByRecursion (λ s. last r < first s) ranges × RiseBy first last ranges

abbrev pub AreRising : List CodePointRange → Type 0
AreRising ranges = RiseBy (λ r. r.first) (λ r. r.last) ranges

-- no range with a class is empty, and each ends before the next begins
abbrev pub AreRisingClasses : List ClassRange → Type 0
AreRisingClasses ranges = RiseBy (λ r. r.first) (λ r. r.last) ranges
