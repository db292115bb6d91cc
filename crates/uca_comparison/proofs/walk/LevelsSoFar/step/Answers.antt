use Rattle.std.proofs.Common.{◌≤◌, ap, refl, sym, ◌∙◌, arith}
use Rattle.uca_comparison.specs.declared.walk.LevelsSoFar.{LevelsSoFar}
use Rattle.uca_comparison.proofs.FrontLemmas.{weight_is}
use Rattle.uca_comparison.proofs.WalkSteps.{all_allowed, allows_at, differs_at, stands_decided}
use Rattle.uca_comparison.proofs.walk.LevelsSoFar.step.Goals as goal

pub returns-in-Differ-clause-stands : goal.returns-in-Differ-clause-stands
returns-in-Differ-clause-stands g c = λ es fs stands.
    let same = c.loop-level.invariant.0 in
    let first = ap (λ (s : LevelsSoFar). s.first) same in
    let through = ap (λ (s : LevelsSoFar). s.through) same in
    let low : 1 ≤ c.loop-level.level = omega (arith, first, c.requires.first, c.loop-level.invariant.1) in
    let high : c.loop-level.level ≤ 4 = omega (arith, through, c.loop-level-test.true, c.requires.through, c.requires.last) in
    stands_decided c.args.weighting es fs c.args.left.now c.args.right.now c.args.self.now _ c.loop-level.level stands
    (omega (arith, c.requires.first)) (omega (arith, first, c.loop-level.invariant.1)) (omega (arith, through, c.loop-level-test.true))
    first refl (ap (λ (s : LevelsSoFar). s.last) same)
    (differs_at _ _ _ _ _ _ _ _ c.in-Differ.order
    (weight_is c.args.weighting c.args.left.now c.loop-level.level c.from-at.result c.weights-first.result c.weights-first.ensures low high c.from-at.ensures)
    (weight_is c.args.weighting c.args.right.now c.loop-level.level c.from-at.result c.weights-second.result c.weights-second.ensures low high c.from-at.ensures)
    c.is_ended.ensures c.is_ended-in-loop-level.ensures c.in-Differ.ensures)

pub loop-level-preserved : goal.loop-level-preserved
loop-level-preserved g c =
    let level = c.loop-level.level in
    let so_far = c.loop-level.invariant in
    let first = ap (λ (s : LevelsSoFar). s.first) so_far.0 in
    let through = ap (λ (s : LevelsSoFar). s.through) so_far.0 in
    let low : 1 ≤ level = omega (arith, first, c.requires.first, so_far.1) in
    let high : level ≤ 4 = omega (arith, through, c.loop-level-test.true, c.requires.through, c.requires.last) in
    let here = allows_at c.in-May.found _ _ _ _ _ _ _ _
    (weight_is c.args.weighting c.args.left.now level c.from-at.result c.weights-first.result c.weights-first.ensures low high c.from-at.ensures)
    (weight_is c.args.weighting c.args.right.now level c.from-at.result c.weights-second.result c.weights-second.ensures low high c.from-at.ensures)
    c.is_ended.ensures c.is_ended-in-loop-level.ensures c.in-May.ensures in (
      so_far.0,
      omega (arith, so_far.1),
      λ same. absurd (omega (arith, same, so_far.1)),
      λ at from to. all_allowed c.args.weighting c.loop-level.step c.in-May.found c.in-Some.both c.loop-level.self.first level c.args.left.now c.args.right.now
          (sym c.with.ensures ∙ c.in-Some.is) so_far.2 so_far.1 so_far.3 here at from (omega (arith, to)),
    )
