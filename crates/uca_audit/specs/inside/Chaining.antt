-- How an audit goes from one condition to the next, and what it looks up on the way.
use Rattle.std.specs.Prelude.{◌≡◌, ◌⊎◌, ◌↔◌, ℕ, ◌<◌, List, Result, MatchResult, Contains}
use Rattle.uca_values.specs.Content.{TableContent}
use Rattle.uca_relations.specs.declared.Relation.{Relation}
use Rattle.uca_relations.specs.Relations.{IsTarget}
use Rattle.uca_elements.specs.Rows.{Rows, rows_of}
use Rattle.uca_tailorings.specs.declared.conditions.Condition.{Condition}
use Rattle.uca_tailorings.specs.Tailorings.{Tailoring, Meets}
use Rattle.uca_audit.specs.declared.faults.AuditFault.{AuditFault}
use Rattle.uca_audit.specs.Refusals.{number_of, FailsFirstAt, IsFirstRefusal, IsMemory}

-- the keys are the targets of the relations
abbrev pub AreTargetsOf : List Relation → List (List ℕ) → Type 0
AreTargetsOf relations keys = (key : List ℕ) → Contains keys key ↔ IsTarget relations key

-- each row of the table is found at its key, and nothing else is
abbrev pub FindsRowsOf : TableContent → Rows → Type 0
FindsRowsOf table found = (key : List ℕ) → found key ≡ rows_of table.rows key

-- all conditions of lower numbers are met
abbrev pub MeetsBelow : Tailoring → ℕ → Type 0
MeetsBelow tailoring n = (other : Condition) → number_of other < n → Meets tailoring other

-- the error is that of the condition, at the first position where it fails
pub record Fails (tailoring : Tailoring) (condition : Condition) (fault : AuditFault) : Type 0 where
  pub number : fault.number ≡ number_of condition
  pub place : FailsFirstAt tailoring condition fault.place

-- the condition is met, or the error is that of the condition, or an allocation failed
abbrev pub Settles : {A : Type 0} → Tailoring → Condition → Result A AuditFault → Type 0
Settles tailoring condition result = MatchResult result (λ _. Meets tailoring condition) (λ fault. Fails tailoring condition fault ⊎ IsMemory fault)

-- all conditions of lower numbers are met, or the error is that of the first one that fails; or an allocation failed
abbrev pub Passes : {A : Type 0} → Tailoring → ℕ → Result A AuditFault → Type 0
Passes tailoring n result = MatchResult result (λ _. MeetsBelow tailoring n) (λ fault. IsFirstRefusal tailoring fault ⊎ IsMemory fault)
