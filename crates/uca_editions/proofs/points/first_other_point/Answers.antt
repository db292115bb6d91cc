use Rattle.std.proofs.Common.{ℕ, List, subst}
use Rattle.uca_values.specs.Content.{properties_of}
use Rattle.uca_changes.specs.Points.{IsSamePoint}
use Rattle.uca_editions.specs.inside.Borders.{IfOutside, FindsLeast}
use Rattle.uca_editions.proofs.FirstOutside.{first_of_all, point_steps}
use Rattle.uca_editions.proofs.points.first_other_point.Goals as goal

pub returns-in-Ok : goal.returns-in-Ok
returns-in-Ok g c =
    let Same = IsSamePoint (properties_of c.args.old.now) (properties_of c.args.new.now) in
    let ranges = c.args.changes.now.ranges in
    let borders = c.push_point_borders.new.list.items in
    first_of_all ranges Same borders c.least_other_point.result c.in-Ok.ensures.firsts
    (point_steps c.args.old.now c.args.new.now ranges borders c.in-Ok.ensures)
    (subst (λ (points : List ℕ). FindsLeast (IfOutside ranges Same) points c.least_other_point.result) c.deref.ensures.value c.least_other_point.ensures)
