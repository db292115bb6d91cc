use Rattle.std.proofs.Common.{ℕ, List, subst}
use Rattle.uca_changes.specs.Points.{IsSamePair}
use Rattle.uca_editions.specs.inside.Borders.{IfOutside, FindsLeast}
use Rattle.uca_editions.proofs.FirstOutside.{first_of_all, pair_steps}
use Rattle.uca_editions.proofs.points.first_other_pair.Goals as goal

pub returns-in-Ok : goal.returns-in-Ok
returns-in-Ok g c =
    let Same = IsSamePair c.args.old.now.ranges c.args.new.now.ranges in
    let ranges = c.args.changes.now.ranges in
    let borders = c.push_pair_borders.new.list.items in
    first_of_all ranges Same borders c.least_other_pair.result c.in-Ok.ensures.firsts
    (pair_steps c.args.old.now.ranges c.args.new.now.ranges ranges borders c.in-Ok.ensures)
    (subst (λ (points : List ℕ). FindsLeast (IfOutside ranges Same) points c.least_other_pair.result) c.deref.ensures.value c.least_other_pair.ensures)
