use Rattle.std.proofs.Common.{◌≤◌, ◌<◌, ◌+◌, ◌-◌, length, refl, sym, ◌∙◌, arith}
use Rattle.std.proofs.lemmas.Bool.{false≢true}
use Rattle.uca_check.proofs.ShorterKeyLemmas.{IsNotAt, further, key_found, key_missing}
use Rattle.uca_check.proofs.wf5.has_key.Goals as goal
use Rattle.uca_check.proofs.wf5.has_key.Goals.{else-step-from-via-then-step-from+else-is_key_at, else-step-from-via-else-step-from, else-step-rows-via-then-step-rows+else-is_key_at-2, else-step-rows-via-else-step-rows}

pub loop-step-init : goal.loop-step-init
loop-step-init g c = λ k within low high. absurd (omega arith)

pub returns-then-is_key_at : goal.returns-then-is_key_at
returns-then-is_key_at g c = (
  (λ _. key_found c.args.rows.now c.args.key.now (c.args.from - c.loop-step.step) (omega arith) (c.is_key_at.ensures.0 c.if-is_key_at.true)),
  (λ _. refl),
)

pub returns-then-is_key_at-2 : goal.returns-then-is_key_at-2
returns-then-is_key_at-2 g c = (
  (λ _. key_found c.args.rows.now c.args.key.now (c.args.from + c.loop-step.step) (omega arith) (c.is_key_at-then-step-rows.ensures.0 c.if-is_key_at-2.true)),
  (λ _. refl),
)

pub returns : goal.returns
returns g c = (
  (λ h. absurd (false≢true h)),
  (λ h. absurd (key_missing c.args.rows.now c.args.key.now (λ k within. c.loop-step.invariant k within (omega arith) (omega arith)) h)),
)

pub loop-step-preserved : goal.loop-step-preserved
loop-step-preserved g c =
    let rows = c.args.rows.now in
    let key = c.args.key.now in
    let from = c.args.from in
    let step = c.loop-step.step in
    let before : step ≤ from → IsNotAt rows key (from - step) =
    elim c.else-step-from.branch [
      | else-step-from-via-then-step-from+else-is_key_at w ↦ λ _ h. false≢true (sym w.if-is_key_at.false ∙ w.is_key_at.ensures.1 h)
      | else-step-from-via-else-step-from w ↦ λ near. absurd (omega arith)
    ] in
    let behind : from + step < length rows → IsNotAt rows key (from + step) =
    elim c.else-step-rows.branch [
      | else-step-rows-via-then-step-rows+else-is_key_at-2 w ↦ λ _ h. false≢true (sym w.if-is_key_at-2.false ∙ w.is_key_at-then-step-rows.ensures.1 h)
      | else-step-rows-via-else-step-rows w ↦ λ near. absurd (omega arith)
    ] in
    λ k. further rows key from step k c.loop-step.invariant before behind
