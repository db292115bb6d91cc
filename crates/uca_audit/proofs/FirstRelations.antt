-- Where a condition fails: the first row or relation without its property.
use Rattle.std.proofs.Common.{◌≡◌, ℕ, suc, ◌+◌, ◌<◌, List, length, ap, arith}
use Rattle.std.proofs.lemmas.List.{length-append}
use Rattle.uca_relations.specs.declared.Relation.{Relation}
use Rattle.uca_tailorings.specs.declared.conditions.Condition.{Condition}
use Rattle.uca_tailorings.specs.Tailorings.{Tailoring}
use Rattle.uca_audit.specs.declared.faults.AuditFault.{AuditFault}
use Rattle.uca_audit.specs.declared.faults.Place.{Place}
use Rattle.uca_audit.specs.declared.faults.Place.TheVariants.{Relation as AtRelation}
use Rattle.uca_audit.specs.Refusals.{number_of, At, FailsFirstAt, IsFirstRelationWithout}
use Rattle.uca_audit.specs.inside.Chaining.{Fails}

-- the first is one of the relations
pub within_first : (P : List Relation → Relation → List Relation → Type 0) (relations : List Relation) (at : ℕ) →
    IsFirstRelationWithout P relations (suc at) → at < length relations
within_first P relations at first = omega (arith, first.place, simp length-append at (ap length first.split))

-- a condition on relations fails there
pub fails_at_relation : (tailoring : Tailoring) (condition : Condition) (P : List Relation → Relation → List Relation → Type 0)
    (at : ℕ) (fault : AuditFault)
    → fault ≡ record { number = number_of condition; place = AtRelation (suc at) } → IsFirstRelationWithout P tailoring.relations (suc at)
    → ((place : Place) → At AtRelation place (IsFirstRelationWithout P tailoring.relations) → FailsFirstAt tailoring condition place)
    → Fails tailoring condition fault
fails_at_relation tailoring condition P at fault is first fails =
    record { number = ap (λ (f : AuditFault). f.number) is; place = fails fault.place (suc at, ap (λ (f : AuditFault). f.place) is, first) }

-- a condition on rows fails there
pub fails_at_row : (tailoring : Tailoring) (condition : Condition) (Numbered : ℕ → Place) (P : ℕ → Type 0) (at : ℕ) (fault : AuditFault)
    → fault ≡ record { number = number_of condition; place = Numbered (at + 1) } → P (at + 1)
    → ((place : Place) → At Numbered place P → FailsFirstAt tailoring condition place) → Fails tailoring condition fault
fails_at_row tailoring condition Numbered P at fault is first fails =
    record { number = ap (λ (f : AuditFault). f.number) is; place = fails fault.place (at + 1, ap (λ (f : AuditFault). f.place) is, first) }
