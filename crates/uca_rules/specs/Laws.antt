-- Laws of rules, as statements.
use Rattle.std.specs.Prelude.{◌≡◌, ◌≢◌, ℕ, List}
use Rattle.uca_values.specs.Content.{Properties}
use Rattle.uca_relations.specs.declared.Relation.{Relation}
use Rattle.uca_rules.specs.declared.faults.RuleFaultKind.{RuleFaultKind}
use Rattle.uca_rules.specs.declared.faults.RuleFaultKind.TheVariants as kinds
use Rattle.uca_rules.specs.Meaning.{Means}
use Rattle.uca_rules.specs.Faults.{IsCause}

-- bytes mean at most one list of relations
abbrev pub OneMeaning : Type 0
OneMeaning = (properties : Properties) (bytes : List ℕ) (relations relations' : List Relation) → Means properties bytes relations → Means properties bytes relations' → relations ≡ relations'

-- bytes with a cause that is not a failed allocation mean no list of relations
abbrev pub ACauseExcludesAMeaning : Type 0
ACauseExcludesAMeaning = (properties : Properties) (bytes : List ℕ) (place : ℕ) (kind : RuleFaultKind) (relations : List Relation) → kind ≢ kinds.Memory → IsCause properties bytes place kind → ¬ (Means properties bytes relations)
