use Rattle.std.proofs.Common.{◌≡◌, ◌≢◌, ◌⊎◌, inl, inr, ◌+◌, ◌*◌, ◌≤◌, length, arith}
use Rattle.uca_ranges.specs.inside.LevelsLength.{levels_length}
use Rattle.uca_ranges.proofs.LevelsEnd.{length_step, none_left}
use Rattle.uca_ranges.proofs.levels.levels_end.Goals as goal
use Rattle.uca_ranges.proofs.levels.levels_end.Goals.{else-weight-eq0-via-then-weight-eq0+else-left-lt2, else-weight-eq0-via-else-weight-eq0, else-left-eq1-via-then-left-eq1+else-at-key, else-left-eq1-via-else-left-eq1}

pub loop-at-preserved : goal.loop-at-preserved
loop-at-preserved c =
    let w = 256 * c.from.result + c.from-in-loop-at.result in
    let kind : ((w ≡ 0) × (2 ≤ c.loop-at.left)) ⊎ (w ≢ 0) =
    elim c.else-weight-eq0.branch [
      | else-weight-eq0-via-then-weight-eq0+else-left-lt2 b ↦ inl (b.if-weight-eq0.true, b.if-left-lt2.false)
      | else-weight-eq0-via-else-weight-eq0 b ↦ inr b.if-weight-eq0.false
    ] in
    length_step c.args.key.now c.loop-at.at c.loop-at.left c.levels_left-left.result w (levels_length c.args.count c.args.key.now)
    c.loop-at-test.true (omega (arith, c.from.ensures, c.from-in-loop-at.ensures)) c.levels_left-left.ensures kind c.loop-at.invariant.1

pub returns-else-left-eq1-clause-value : goal.returns-else-left-eq1-clause-value
returns-else-left-eq1-clause-value c =
    let kind : (c.loop-at.left ≢ 1) ⊎ (c.loop-at.at ≢ length c.args.key.now) =
    elim c.else-left-eq1.branch [
      | else-left-eq1-via-then-left-eq1+else-at-key b ↦ inr b.if-at-key.false
      | else-left-eq1-via-else-left-eq1 b ↦ inl b.if-left-eq1.false
    ] in
    none_left c.args.key.now c.loop-at.at c.loop-at.left (levels_length c.args.count c.args.key.now) c.loop-at.invariant.0
    (omega (arith, c.loop-at-test.false)) kind c.loop-at.invariant.1
