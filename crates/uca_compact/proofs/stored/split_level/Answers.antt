-- One more weight, and how the level ends.
use Rattle.std.proofs.Common.{arith, refl}
use Rattle.uca_compact.proofs.StoredSteps.{none_split, more_split, split_key_end, split_single}
use Rattle.uca_compact.proofs.stored.split_level.Goals as goal
use Rattle.uca_compact.proofs.stored.split_level.Goals.{then-at-bytes, else-at-bytes, else-bytes-at-eq0-via-then-bytes-at-eq0+else-bytes-at-eq0-2, else-bytes-at-eq0-via-else-bytes-at-eq0}

pub loop-at-init : goal.loop-at-init
loop-at-init c = none_split c.args.bytes.now

pub loop-at-preserved : goal.loop-at-preserved
loop-at-preserved c =
    more_split c.args.bytes.now c.loop-at.at c.loop-at.invariant c.loop-at-test.true
    (elim c.else-bytes-at-eq0.branch [
      | else-bytes-at-eq0-via-then-bytes-at-eq0+else-bytes-at-eq0-2 w ↦ (let some = w.if-bytes-at-eq0-2.false in omega (arith, some))
      | else-bytes-at-eq0-via-else-bytes-at-eq0 w ↦ (let some = w.if-bytes-at-eq0.false in omega (arith, some))
    ])

pub returns-clause-read : goal.returns-clause-read
returns-clause-read c =
    elim c.if-at-bytes.branch [
      | then-at-bytes w ↦ split_key_end c.args.bytes.now _ c.loop-at.at _ c.loop-at.invariant refl w.if-at-bytes.true w.end-is
      | else-at-bytes w ↦ split_single c.args.bytes.now _ c.loop-at.at _ c.loop-at.invariant (omega (arith, c.loop-at-test.false)) w.if-at-bytes.false w.end-is
    ]
