use Rattle.std.proofs.Common.{◌≡◌}
use Rattle.uca_change_files.specs.Changes.{OfRange}
use Rattle.uca_change_files.specs.Steps.{SpellsRange}
use Rattle.uca_change_files.proofs.LineLaws.{refuses_range, refuses_here}
use Rattle.uca_change_files.proofs.lines.add_range.Goals as goal

pub returns-in-Some-clause-fault : goal.returns-in-Some-clause-fault
returns-in-Some-clause-fault g c =
    refuses_here (λ item. OfRange c.in-Some.range ≡ item) (SpellsRange c.args.spelled.now) c.args.list.now c.push_range.result
    (λ kind h. refuses_range c.args.spelled.now c.in-Some.range c.args.list.now kind c.in-Some.ensures h) c.push_range.ensures.fault
