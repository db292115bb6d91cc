-- What the passes over a table find.
use Rattle.std.specs.Prelude.{◌⊎◌, ⊤, ℕ, ◌+◌, ◌<◌, ◌↔◌, List, Option, MatchOption, length}
use Rattle.std.specs.List.{AllByRecursion}
use Rattle.uca_weights.specs.declared.Element.{Element}
use Rattle.uca_weights.specs.Kinds.{IsSecondaryElement, IsTertiaryElement}
use Rattle.uca_values.specs.Content.{Entry}
use Rattle.uca_check.specs.WellFormed.{IsFirstWithout, IsVariable, IsHighSecondary, IsHighTertiary}
use Rattle.uca_check.specs.declared.wf2.GreatestWeights.{GreatestWeights}
use Rattle.uca_check.specs.declared.wf4.VariableRange.{VariableRange}

-- the position, counted from 0, of the first row without the property, if there is one
abbrev pub FindsFirstWithout : (Entry → Type 0) → List Entry → Option ℕ → Type 0
FindsFirstWithout P rows found = MatchOption found (AllByRecursion P rows) (λ at. (at < length rows) × IsFirstWithout P rows (at + 1))

-- what is greater is high enough among the elements, and nothing else
pub record AreGreatestWeights (all : List Element) (greatest : GreatestWeights) : Type 0 where
  pub secondary : (weight : ℕ) → (greatest.secondary < weight) ↔ IsHighSecondary all weight
  pub tertiary : (weight : ℕ) → (greatest.tertiary < weight) ↔ IsHighTertiary all weight

-- the first weight of the element is greater, if it is secondary or tertiary
abbrev pub IsAllowed : GreatestWeights → Element → Type 0
IsAllowed greatest e = (IsSecondaryElement e → greatest.secondary < e.secondary) × (IsTertiaryElement e → greatest.tertiary < e.tertiary)

-- from the least primary of the variable elements to the greatest
pub record IsVariableRange (all : List Element) (range : VariableRange) : Type 0 where
  pub least : (primary : ℕ) → (primary < range.least) ↔ AllByRecursion (λ v. IsVariable v → primary < v.primary) all
  pub greatest : (primary : ℕ) → (range.greatest < primary) ↔ AllByRecursion (λ v. IsVariable v → v.primary < primary) all

-- from the least primary of the variable elements to the greatest, or none of the elements is variable
abbrev pub IsVariableRangeIfAny : List Element → Option VariableRange → Type 0
IsVariableRangeIfAny all range = MatchOption range (AllByRecursion (λ v. IsVariable v → ⊥) all) (IsVariableRange all)

-- the element is variable, or its primary is outside the range
abbrev pub StandsApart : Option VariableRange → Element → Type 0
StandsApart range e = IsVariable e ⊎ MatchOption range ⊤ (λ s. (e.primary < s.least) ⊎ (s.greatest < e.primary))
