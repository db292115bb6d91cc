use Rattle.std.proofs.Common.{◌∙◌}
use Rattle.uca_order.specs.Levels.{lexicographic}
use Rattle.uca_compact.specs.PlainLevels.{copies}
use Rattle.uca_compact.proofs.PlainSteps.{longer_level, other_weight, same_weight, shorter_level}
use Rattle.uca_compact.proofs.plain.compare_run.Goals as goal

pub returns-then-left-eq0 : goal.returns-then-left-eq0
returns-then-left-eq0 c =
    longer_level c.args.level.now c.loop-found.found-index c.args.weight c.loop-found.left (lexicographic c.args.level.now (copies c.args.weight c.args.count))
    c.loop-found-test.true c.if-left-eq0.true c.loop-found.invariant

pub returns-then-found-weight : goal.returns-then-found-weight
returns-then-found-weight c =
    c.cmp.ensures
    ∙ other_weight c.args.level.now c.loop-found.found-index c.args.weight c.loop-found.left (lexicographic c.args.level.now (copies c.args.weight c.args.count))
    c.loop-found-test.true c.if-left-eq0.false c.if-found-weight.true c.loop-found.invariant

pub loop-found-preserved : goal.loop-found-preserved
loop-found-preserved c =
    same_weight c.args.level.now c.loop-found.found-index c.args.weight c.loop-found.left (lexicographic c.args.level.now (copies c.args.weight c.args.count))
    c.loop-found-test.true c.if-left-eq0.false c.if-found-weight.false c.loop-found.invariant

pub returns-else-left-eq0-2 : goal.returns-else-left-eq0-2
returns-else-left-eq0-2 c =
    shorter_level c.args.level.now c.loop-found.found-index c.args.weight c.loop-found.left (lexicographic c.args.level.now (copies c.args.weight c.args.count))
    c.loop-found-test.false c.if-left-eq0-2.false c.loop-found.invariant
