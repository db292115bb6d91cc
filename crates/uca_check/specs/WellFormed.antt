-- Well-formed tables (UTS #10, section 9.2, as this project's profile words it): five conditions, each
-- over the whole table.
use Rattle.std.specs.Prelude.{◌≡◌, ◌≢◌, ◌⊎◌, ℕ, zero, suc, ◌+◌, ◌<◌, ◌≤◌, List, [], ◌∷◌, ◌++◌, length, true, ⊤, Contains}
use Rattle.std.specs.List.{AllByRecursion, flat_map}
use Rattle.uca_weights.specs.declared.Element.{Element}
use Rattle.uca_weights.specs.Kinds.{IsPrimaryElement, IsSecondaryElement, IsTertiaryElement, IsContinuation}
use Rattle.uca_values.specs.Content.{Entry, keys_of}

-- all elements of the rows
abbrev pub elements_of : List Entry → List Element
elements_of rows = flat_map (λ row. row.elements) rows

-- ---- WF1

-- a zero weight at level 2 or 3, and a weight at the level before
abbrev pub HasGap : Element → Type 0
HasGap e = ((e.primary ≢ 0) × (e.secondary ≡ 0)) ⊎ ((e.secondary ≢ 0) × (e.tertiary ≡ 0))

-- an element that a continuation may follow: its primary is FB00 to FBFF, and none of its weights is zero
pub record IsLead (e : Element) : Type 0 where
  pub low : 0xFB00 ≤ e.primary
  pub high : e.primary ≤ 0xFBFF
  pub secondary : e.secondary ≢ 0
  pub tertiary : e.tertiary ≢ 0

-- the last element is such a lead
abbrev pub EndsWithLead : List Element → Type 0
EndsWithLead elements = (front : List Element) × (lead : Element) × (elements ≡ front ++ lead ∷ []) × IsLead lead

-- WF1: only a continuation directly after a lead has a gap
pub record MeetsWF1 (row : Entry) : Type 0 where
  pub gaps : (before : List Element) (e : Element) (after : List Element) → row.elements ≡ before ++ e ∷ after → HasGap e → IsContinuation e × EndsWithLead before

-- ---- WF2

-- greater than 0020, and than the secondary weights of all primary elements
abbrev pub IsHighSecondary : List Element → ℕ → Type 0
IsHighSecondary all weight = (0x20 < weight) × AllByRecursion (λ f. IsPrimaryElement f → f.secondary < weight) all

-- greater than 0002, and than the tertiary weights of all primary and secondary elements
abbrev pub IsHighTertiary : List Element → ℕ → Type 0
IsHighTertiary all weight = (2 < weight) × AllByRecursion (λ f. IsPrimaryElement f ⊎ IsSecondaryElement f → f.tertiary < weight) all

-- WF2: among all elements of the table, the first weights of secondary and of tertiary elements are so
abbrev pub MeetsWF2 : List Entry → Entry → Type 0
MeetsWF2 rows row = AllByRecursion (λ e.
    (IsSecondaryElement e → IsHighSecondary (elements_of rows) e.secondary)
    × (IsTertiaryElement e → IsHighTertiary (elements_of rows) e.tertiary)) row.elements

-- ---- WF3

abbrev pub IsVariable : Element → Type 0
IsVariable e = e.mark ≡ true

-- WF3: variable elements have a primary
abbrev pub MeetsWF3 : Entry → Type 0
MeetsWF3 row = AllByRecursion (λ e. IsVariable e → e.primary ≢ 0) row.elements

-- ---- WF4

-- it is variable, if its primary lies from that of a variable element to that of another, ends included
abbrev pub IsVariableBetween : List Element → Element → Type 0
IsVariableBetween all e = AllByRecursion (λ v. AllByRecursion (λ w. IsVariable v → IsVariable w → v.primary ≤ e.primary → e.primary ≤ w.primary → IsVariable e) all) all

-- WF4: each element is so, among all elements of the table
abbrev pub MeetsWF4 : List Entry → Entry → Type 0
MeetsWF4 rows row = AllByRecursion (IsVariableBetween (elements_of rows)) row.elements

-- ---- WF5

-- WF5: a key of three or more code points that ends with a non-starter is a key without it too
pub record MeetsWF5 (class : ℕ → ℕ) (rows : List Entry) (row : Entry) : Type 0 where
  pub shorter : (front : List ℕ) (last : ℕ) → row.key ≡ front ++ last ∷ [] → 2 ≤ length front → class last ≢ 0 → Contains (keys_of rows) front

-- ---- Tables

-- the condition by its number, 1 to 5; no other number has one
abbrev pub Meets : (ℕ → ℕ) → List Entry → ℕ → Entry → Type 0
Meets class rows (suc zero) row = MeetsWF1 row
Meets class rows (suc (suc zero)) row = MeetsWF2 rows row
Meets class rows (suc (suc (suc zero))) row = MeetsWF3 row
Meets class rows (suc (suc (suc (suc zero)))) row = MeetsWF4 rows row
Meets class rows (suc (suc (suc (suc (suc zero))))) row = MeetsWF5 class rows row
Meets class rows _ row = ⊤

-- every row meets every condition
pub record IsWellFormed (class : ℕ → ℕ) (rows : List Entry) : Type 0 where
  pub wf1 : AllByRecursion MeetsWF1 rows
  pub wf2 : AllByRecursion (MeetsWF2 rows) rows
  pub wf3 : AllByRecursion MeetsWF3 rows
  pub wf4 : AllByRecursion (MeetsWF4 rows) rows
  pub wf5 : AllByRecursion (MeetsWF5 class rows) rows

-- the row, counted from 1, is the first without the property
pub record IsFirstWithout (P : Entry → Type 0) (rows : List Entry) (row : ℕ) : Type 0 where
  pub before : List Entry
  pub entry : Entry
  pub after : List Entry
  pub split : rows ≡ before ++ entry ∷ after
  pub place : row ≡ length before + 1
  pub earlier : AllByRecursion P before
  pub without : P entry → ⊥

-- all rows meet the conditions of lower numbers, and this row is the first that fails this one
pub record IsFirstFailure (class : ℕ → ℕ) (rows : List Entry) (wf row : ℕ) : Type 0 where
  pub number : (1 ≤ wf) × (wf ≤ 5)
  pub lower : (n : ℕ) → 1 ≤ n → n < wf → AllByRecursion (Meets class rows n) rows
  pub first : IsFirstWithout (Meets class rows wf) rows row
