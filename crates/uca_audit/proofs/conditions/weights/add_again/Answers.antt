-- A new weight that was seen is put in with those that are new twice.
use Rattle.std.proofs.Common.{sym, subst}
use Rattle.std.proofs.lemmas.Bool.{false≢true}
use Rattle.std.proofs.Common.{◌++◌, ◌∷◌, [], ◌∙◌}
use Rattle.uca_audit.specs.inside.NewWeights.{HoldsNew}
use Rattle.uca_audit.proofs.Fresh.{shared_more, shared_same, seen_more}
use Rattle.uca_audit.proofs.conditions.weights.add_again.Goals as goal
use Rattle.uca_audit.proofs.conditions.weights.add_again.Goals.{then-contains, else-contains}

pub returns-clause-shared : goal.returns-clause-shared
returns-clause-shared g c placements once twice =
    let p = c.args.placement in
    elim c.if-contains.branch [
      | then-contains w ↦
          subst (HoldsNew 2 (placements ++ p ∷ [])) (sym w.shared-is)
          (shared_more placements p c.in-Some.level c.args.seen.now c.args.shared.now w.insert.new.self c.in-Some.is once twice
          (c.contains.ensures.0 w.if-contains.true) w.insert.ensures)
      | else-contains w ↦
          subst (HoldsNew 2 (placements ++ p ∷ [])) (sym w.shared-is)
          (shared_same placements p c.in-Some.level c.args.seen.now c.args.shared.now c.in-Some.is once twice
          (λ has. false≢true (sym w.if-contains.false ∙ c.contains.ensures.1 has)))
    ]

pub returns-clause-seen : goal.returns-clause-seen
returns-clause-seen g c placements once =
    seen_more placements c.args.placement c.in-Some.level c.args.seen.now c.insert-2.new.self c.in-Some.is once c.insert-2.ensures
