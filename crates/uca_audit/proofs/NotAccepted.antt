-- A tailoring that is rejected is not accepted.
use Rattle.std.proofs.Common.{⊎_elim, ℕ, List, subst}
use Rattle.std.specs.List.{AllByRecursion}
use Rattle.uca_weights.proofs.Lists.{inside}
use Rattle.uca_check.proofs.WellFormedLemmas.{no_row_without, no_form_fails}
use Rattle.uca_relations.specs.declared.Relation.{Relation}
use Rattle.uca_tailorings.specs.declared.conditions.Condition.{Condition}
use Rattle.uca_tailorings.specs.declared.conditions.Condition.TheVariants.{BaseIllFormed, TailoredIllFormed, Header, Uncovered, RowChanged, RowMissing, RowExtra, Anchor, NotPlaced, NotFresh, NotNearest}
use Rattle.uca_tailorings.specs.Tailorings.{Tailoring, Meets, AllRelations}
use Rattle.uca_audit.specs.declared.faults.Place.{Place}
use Rattle.uca_audit.specs.Refusals.{IsFirstRelationWithout, IsFirstAloneWithout, FailsFirstAt, RefusedTailoringsAreNotAccepted}

-- and no relation
no_relation_alone : (P : Relation → Type 0) (relations : List Relation) (number : ℕ) → AllByRecursion P relations → IsFirstAloneWithout P relations number → ⊥
no_relation_alone P relations number all first = first.without (inside P first.before first.r first.after (subst (AllByRecursion P) first.split all))

no_relation_without : (P : List Relation → Relation → List Relation → Type 0) (relations : List Relation) (number : ℕ) → AllRelations P relations → IsFirstRelationWithout P relations number → ⊥
no_relation_without P relations number all first = first.without (all first.before first.r first.after first.split)

-- a condition that is met fails nowhere
fails_nowhere : (tailoring : Tailoring) (condition : Condition) (place : Place) → Meets tailoring condition → FailsFirstAt tailoring condition place → ⊥
fails_nowhere t BaseIllFormed place met fails = no_form_fails t.properties.class t.base.rows fails.2.0 fails.0 met fails.2.1
fails_nowhere t TailoredIllFormed place met fails = no_form_fails t.properties.class t.tailored.rows fails.2.0 fails.0 met fails.2.1
fails_nowhere t Header place met fails = fails.1 met
fails_nowhere t Uncovered place met fails = no_row_without _ t.base.rows fails.0 met fails.2
fails_nowhere t RowChanged place met fails = no_row_without _ t.base.rows fails.0 met fails.2
fails_nowhere t RowMissing place met fails =
    ⊎_elim (λ row. no_row_without _ t.base.rows row.0 met.0 row.2) (λ target. no_relation_alone _ t.relations target.1.0 met.1 target.1.2) fails
fails_nowhere t RowExtra place met fails = no_row_without _ t.tailored.rows fails.0 met fails.2
fails_nowhere t Anchor place met fails = no_relation_alone _ t.relations fails.0 met fails.2
fails_nowhere t NotPlaced place met fails = no_relation_alone _ t.relations fails.0 met fails.2
fails_nowhere t NotFresh place met fails = no_relation_without _ t.relations fails.0 met fails.2
fails_nowhere t NotNearest place met fails = no_relation_without _ t.relations fails.0 met fails.2

pub refused_not_accepted : RefusedTailoringsAreNotAccepted
refused_not_accepted tailoring fault refusal accepted = fails_nowhere tailoring refusal.condition fault.place (accepted refusal.condition) refusal.fails
