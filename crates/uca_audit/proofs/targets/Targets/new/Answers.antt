-- The keys are the targets of the relations so far.
use Rattle.std.proofs.Common.{map, subst, ◌∙◌}
use Rattle.std.proofs.lemmas.List.{take_all}
use Rattle.std.proofs.lemmas.Map.Lookups.{exact_bytes}
use Rattle.uca_audit.specs.inside.Chaining.{AreTargetsOf}
use Rattle.uca_audit.proofs.TargetSets.{targets_more}
use Rattle.uca_audit.proofs.targets.Targets.new.Goals as goal

pub loop-relation-preserved : goal.loop-relation-preserved
loop-relation-preserved g c =
    targets_more (λ k. k.items) _ (λ a b. exact_bytes a.items b.items) _ _ _ c.args.relations.now c.loop-relation.relation-index c.relation-item.result
    c.loop-relation-test.true c.relation-item.is (c.in_ok-key.ensures.items ∙ c.chars.ensures.value) c.in_ok-insert.ensures.keys c.loop-relation.invariant

pub returns : goal.returns
returns g c =
    subst (λ relations. AreTargetsOf relations (map (λ key. key.items) c.loop-relation.keys.keys))
    (take_all c.loop-relation.relation-index c.args.relations.now c.loop-relation-test.false) c.loop-relation.invariant
