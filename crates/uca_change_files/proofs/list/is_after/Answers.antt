use Rattle.uca_change_files.specs.Changes.{IsBefore}
use Rattle.uca_change_files.proofs.Orders.{last_decides, less_test}
use Rattle.uca_change_files.proofs.list.is_after.Goals as goal

pub returns-in-Some : goal.returns-in-Some
returns-in-Some c =
    let d = last_decides IsBefore c.args.ranges.now c.in-Some.last.now c.args.range c.in-Some.ensures.value in
    let t = less_test c.in-Some.last.now.last c.args.range.first in
    (λ h. d.0 (t.0 h), λ h. t.1 (d.1 h))
