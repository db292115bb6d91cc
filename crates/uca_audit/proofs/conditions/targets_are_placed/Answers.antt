use Rattle.std.proofs.Common.{inl, subst}
use Rattle.uca_tailorings.specs.Tailorings.{IsPlaced, Meets}
use Rattle.uca_tailorings.specs.declared.conditions.Condition.TheVariants.{NotPlaced}
use Rattle.uca_audit.specs.inside.Views.{tailoring_in, FindsFirstRelation}
use Rattle.uca_audit.proofs.FirstRelations.{within_first, fails_at_relation}
use Rattle.uca_audit.proofs.conditions.targets_are_placed.Goals as goal

pub at_relation-requires : goal.at_relation-requires
at_relation-requires g c =
    let t = tailoring_in c.args.inputs.now in
    within_first (λ before r after. IsPlaced t r) t.relations c.in-Some.at
    (subst (FindsFirstRelation (Meets t NotPlaced) (λ before r after. IsPlaced t r) t.relations) c.in-Some.is c.in_ok-first_not_placed.ensures.found)

pub returns-in-Some-clause-settled : goal.returns-in-Some-clause-settled
returns-in-Some-clause-settled g c =
    let t = tailoring_in c.args.inputs.now in
    inl (fails_at_relation t NotPlaced (λ before r after. IsPlaced t r) c.in-Some.at _ c.at_relation.ensures
    (subst (FindsFirstRelation (Meets t NotPlaced) (λ before r after. IsPlaced t r) t.relations) c.in-Some.is c.in_ok-first_not_placed.ensures.found)
    (λ place at. at))
