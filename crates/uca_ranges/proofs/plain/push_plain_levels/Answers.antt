use Rattle.std.proofs.Common.{◌++◌, ◌-◌}
use Rattle.uca_ranges.specs.Ranges.{plain_levels}
use Rattle.uca_ranges.proofs.PlainKeys.{plains_step}
use Rattle.uca_ranges.proofs.plain.push_plain_levels.Goals as goal

pub loop-done-preserved : goal.loop-done-preserved
loop-done-preserved g c levels are some is =
    plains_step c.loop-done.bytes.items c.push_plain_level.new.bytes.items c.loop-done.done c.args.all (levels ++ plain_levels levels (c.args.all - c.args.count))
    c.loop-done-test.true (c.loop-done.invariant levels are some is) c.in_ok-push_plain_level.ensures
