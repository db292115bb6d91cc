use Rattle.std.proofs.Common.{◌+◌, ◌*◌, arith}
use Rattle.uca_compact.specs.StoredParts.{stored_level}
use Rattle.uca_compact.proofs.StoredSteps.{weights_step}
use Rattle.uca_ranges.proofs.StoredReads.{key_ends}
use Rattle.uca_ranges.proofs.stored.read_letters.Goals as goal

pub loop-at-preserved : goal.loop-at-preserved
loop-at-preserved g c =
    weights_step c.loop-at.letters.items c.args.key.now c.push.new.self.items c.loop-at.at (256 * c.from.result + c.from-in-loop-at.result) (stored_level c.args.key.now)
    c.loop-at-test.true (omega (arith, c.from.ensures, c.from-in-loop-at.ensures)) c.if-weight-eq0.false (omega (arith, c.from.ensures, c.from-in-loop-at.ensures))
    c.loop-at.invariant.1 c.in_ok-push.ensures.items c.loop-at.invariant.2

pub returns-clause-letters : goal.returns-clause-letters
returns-clause-letters g c =
    key_ends c.loop-at.letters.items c.args.key.now c.loop-at.at (stored_level c.args.key.now) c.loop-at.invariant.0
    (omega (arith, c.loop-at-test.false)) c.loop-at.invariant.2
