use Rattle.std.proofs.Common.{◌++◌}
use Rattle.uca_order.specs.Levels.{level_bytes}
use Rattle.uca_compact.specs.PlainLevels.{copies}
use Rattle.uca_ranges.proofs.PlainKeys.{copy_pushed}
use Rattle.uca_ranges.proofs.plain.push_copies.Goals as goal

pub loop-left-preserved : goal.loop-left-preserved
loop-left-preserved g c =
    copy_pushed c.loop-left.out.items c.push.new.self.items c.push-in-loop-left.new.self.items c.args.weight c.loop-left.left
    (c.args.out.now.items ++ level_bytes (copies c.args.weight c.args.count)) c.loop-left-test.true c.in_ok-push.ensures.items c.in_ok-push-2.ensures.items c.loop-left.invariant
