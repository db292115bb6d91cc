use Rattle.std.proofs.Common.{◌≡◌, ◌≤◌, ◌⊎◌, inl, inr, false, ◌∙◌, ap, refl, sym, subst, arith}
use Rattle.uca_comparison.specs.declared.walk.LevelsSoFar.{LevelsSoFar}
use Rattle.uca_comparison.specs.Fronts.{FrontState, advanced, is_ended}
use Rattle.uca_comparison.specs.Walks.{Stands}
use Rattle.uca_comparison.proofs.WalkSteps.{stands_agreed, stands_taken, fewer_taken}
use Rattle.uca_comparison.proofs.LevelSteps.{walk_answers}
use Rattle.uca_comparison.proofs.walk.walk_fronts.Goals as goal
use Rattle.uca_comparison.proofs.walk.walk_fronts.Goals.{then-is_ended, else-is_ended, else-not-is_ended, then-not-is_ended+else-agrees+then-levels-first}

pub loop-right-init : goal.loop-right-init
loop-right-init g c = ((λ es fs stands. stands), refl, c.requires.some, omega arith, omega arith)

pub loop-right-smaller : goal.loop-right-smaller
loop-right-smaller g c =
    let first = c.step-step.ensures.first ∙ c.loop-right.invariant.1 in
    let allowed = c.step-step.ensures.step c.args.first (omega (arith, first)) (omega (arith, c.if-levels-first.false)) in
    let some : (is_ended c.loop-right.left ≡ false) ⊎ (is_ended c.loop-right.right ≡ false) = elim c.if-is_ended.branch [
      | then-is_ended v ↦ inr (sym v.is_ended-then-is_ended.ensures ∙ sym v.value-is ∙ c.if-not-is_ended.true)
      | else-is_ended v ↦ inl (sym c.is_ended.ensures ∙ v.if-is_ended.false)
    ] in
    fewer_taken c.step-step.result c.args.weighting c.args.first c.loop-right.left c.loop-right.right c.take.new.left c.take.new.right some allowed c.take.ensures

pub loop-right-preserved : goal.loop-right-preserved
loop-right-preserved g c =
    let first : c.step-step.new.self.first ≡ c.args.first = c.step-step.ensures.first ∙ c.loop-right.invariant.1 in
    let some : c.args.first ≤ c.step-step.new.self.through = omega (arith, c.if-levels-first.false) in (
      λ es fs begins. stands_taken c.step-step.result c.args.weighting es fs c.loop-right.left c.loop-right.right c.take.new.left c.take.new.right c.step-step.new.self
          (c.step-step.ensures.stands es fs (c.loop-right.invariant.0 es fs begins)) (omega (arith, first, some)) c.step-step.ensures.step c.take.ensures,
      first,
      some,
      omega (arith, c.step-step.ensures.last, c.loop-right.invariant.3),
      c.step-step.ensures.within,
    )

pub returns : goal.returns
returns g c = λ es fs begins.
    let levels = c.if-not-is_ended.levels in
    let stands = λ (s : LevelsSoFar). Stands c.args.weighting es fs c.loop-right.left c.loop-right.right s in
    let before = c.loop-right.invariant.0 es fs begins in
    let answers = walk_answers c.args.weighting es fs c.loop-right.left c.loop-right.right levels c.args.first c.args.last c.decided.result c.fetched.result c.fetched-2.result in
    elim c.if-not-is_ended.branch [
      | else-not-is_ended w ↦
          answers (subst stands (sym w.levels-is) before)
          (record {
            ends = λ some. elim c.if-is_ended.branch [
              | then-is_ended v ↦ (sym c.is_ended.ensures ∙ v.if-is_ended.true, sym v.is_ended-then-is_ended.ensures ∙ sym v.value-is ∙ w.if-not-is_ended.false)
              | else-is_ended v ↦ absurd cc
            ];
          })
          (ap (λ (s : LevelsSoFar). s.first) w.levels-is ∙ c.loop-right.invariant.1)
          (let last = ap (λ (s : LevelsSoFar). s.last) w.levels-is in omega (arith, last, c.loop-right.invariant.3))
          c.decided.ensures c.fetched.ensures c.fetched-2.ensures
      | then-not-is_ended+else-agrees+then-levels-first w ↦
          let first = ap (λ (s : LevelsSoFar). s.first) w.levels-is ∙ w.step-step.ensures.first ∙ c.loop-right.invariant.1 in
          answers (subst stands (sym w.levels-is) (w.step-step.ensures.stands es fs before))
          (record { ends = λ some. let through = ap (λ (s : LevelsSoFar). s.through) w.levels-is in absurd (omega (arith, some, first, through, w.if-levels-first.true)) })
          first
          (let last = ap (λ (s : LevelsSoFar). s.last) w.levels-is in omega (arith, last, w.step-step.ensures.last, c.loop-right.invariant.3))
          c.decided.ensures c.fetched.ensures c.fetched-2.ensures
    ]

pub loop-right-preserved-then-agrees : goal.loop-right-preserved-then-agrees
loop-right-preserved-then-agrees g c = (
  λ es fs begins.
      let stands = stands_agreed c.args.weighting es fs c.loop-right.left c.loop-right.right c.loop-right.levels (c.loop-right.invariant.0 es fs begins)
      (omega (arith, c.loop-right.invariant.1, c.requires.first)) (omega (arith, c.loop-right.invariant.1, c.loop-right.invariant.2)) (c.if-agrees.ensures c.args.weighting) in
      subst (λ (f : FrontState). Stands c.args.weighting es fs f c.advance-then-agrees.new.self c.loop-right.levels) (sym c.advance.ensures)
      (subst (λ (f : FrontState). Stands c.args.weighting es fs (advanced c.loop-right.left) f c.loop-right.levels) (sym c.advance-then-agrees.ensures) stands),
  c.loop-right.invariant.1,
  c.loop-right.invariant.2,
  c.loop-right.invariant.3,
  c.loop-right.invariant.4,
)
