use Rattle.std.proofs.Common.{◌≡◌, ◌+◌, ◌≤◌, ◌&&◌, ℕ, Bool, not, drop, get_or, subst, sym}
use Rattle.uca_compact.specs.PlainLevels.{letters_after, is_lead, letter_count}
use Rattle.uca_compact.proofs.PlainSteps.{count_step, one_more}
use Rattle.uca_compact.proofs.plain.letter_count.Goals as goal

pub loop-weight-preserved : goal.loop-weight-preserved
loop-weight-preserved c =
    let counted = count_step c.args.weights.now c.loop-weight.weight-index c.loop-weight.count (letter_count c.args.weights.now) c.loop-weight.after_lead
    c.loop-weight-test.true c.loop-weight.invariant.1 in
    let first = one_more c.loop-weight.count c.loop-weight.weight-index c.loop-weight.after_lead c.loop-weight.invariant.0 in (
      subst (λ (n : ℕ). n ≤ c.loop-weight.weight-index + 1) (sym c.with_letter-count.ensures) first,
      subst (λ (b : Bool). c.with_letter-count.result + letters_after b (drop (c.loop-weight.weight-index + 1) c.args.weights.now) ≡ letter_count c.args.weights.now) (sym c.leads-after_lead.ensures)
          (subst (λ (n : ℕ). n + letters_after (not c.loop-weight.after_lead && is_lead (get_or c.args.weights.now c.loop-weight.weight-index 0)) (drop (c.loop-weight.weight-index + 1) c.args.weights.now) ≡ letter_count c.args.weights.now) (sym c.with_letter-count.ensures) counted),
    )
