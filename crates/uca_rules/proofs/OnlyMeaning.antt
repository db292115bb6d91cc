-- What bytes mean is what reading them gives, unless an allocation fails.
use Rattle.std.proofs.Common.{◌≡◌, ℕ, List, Result, Ok, Err, IfOk, IfErr, MatchResult, refl}
use Rattle.uca_values.specs.Content.{Properties}
use Rattle.uca_relations.specs.declared.Relation.{Relation}
use Rattle.uca_rules.specs.declared.faults.RuleFault.{RuleFault}
use Rattle.uca_rules.specs.declared.faults.RuleFaultKind.{RuleFaultKind}
use Rattle.uca_rules.specs.declared.faults.RuleFaultKind.TheVariants as kinds
use Rattle.uca_rules.specs.Meaning.{Means}
use Rattle.uca_rules.specs.Faults.{IsCause}
use Rattle.uca_rules.proofs.MeaningLaws.{one_meaning}
use Rattle.uca_rules.proofs.Exclusion.{a_cause_excludes_a_meaning}

-- if bytes mean relations, there is no other cause
only_memory : (properties : Properties) (bytes : List ℕ) (place : ℕ) (kind : RuleFaultKind) (relations : List Relation) → IsCause properties bytes place kind → Means properties bytes relations → kind ≡ kinds.Memory
only_memory properties bytes place kinds.Memory relations cause means = refl
only_memory properties bytes place kinds.Utf8 relations cause means = absurd (a_cause_excludes_a_meaning properties bytes place kinds.Utf8 relations (λ e. cc) cause means)
only_memory properties bytes place kinds.Limit relations cause means = absurd (a_cause_excludes_a_meaning properties bytes place kinds.Limit relations (λ e. cc) cause means)
only_memory properties bytes place kinds.Syntax relations cause means = absurd (a_cause_excludes_a_meaning properties bytes place kinds.Syntax relations (λ e. cc) cause means)
only_memory properties bytes place kinds.Escape relations cause means = absurd (a_cause_excludes_a_meaning properties bytes place kinds.Escape relations (λ e. cc) cause means)
only_memory properties bytes place kinds.BeforeStrength relations cause means = absurd (a_cause_excludes_a_meaning properties bytes place kinds.BeforeStrength relations (λ e. cc) cause means)
only_memory properties bytes place kinds.EmptyText relations cause means = absurd (a_cause_excludes_a_meaning properties bytes place kinds.EmptyText relations (λ e. cc) cause means)
only_memory properties bytes place kinds.DuplicateTarget relations cause means = absurd (a_cause_excludes_a_meaning properties bytes place kinds.DuplicateTarget relations (λ e. cc) cause means)
only_memory properties bytes place kinds.LateTarget relations cause means = absurd (a_cause_excludes_a_meaning properties bytes place kinds.LateTarget relations (λ e. cc) cause means)

pub only_meaning : (properties : Properties) (bytes : List ℕ) (result : Result (List Relation) RuleFault)
    → IfOk result (λ rules. Means properties bytes rules) → IfErr result (λ fault. IsCause properties bytes fault.byte fault.kind)
    → (relations : List Relation) → Means properties bytes relations → MatchResult result (λ rules. rules ≡ relations) (λ fault. fault.kind ≡ kinds.Memory)
only_meaning properties bytes (Ok rules) found fault relations means = one_meaning properties bytes rules relations found means
only_meaning properties bytes (Err fault) found cause relations means = only_memory properties bytes fault.byte fault.kind relations cause means
