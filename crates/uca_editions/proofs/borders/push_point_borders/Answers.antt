use Rattle.std.proofs.lemmas.Result.{on_ok_weaker}
use Rattle.uca_editions.proofs.BorderLists.{point_lists}
use Rattle.uca_editions.proofs.borders.push_point_borders.Goals as goal

pub returns : goal.returns
returns g c =
    on_ok_weaker c.push_ranges.result (λ adds.
    point_lists c.args.old.now c.args.new.now c.args.changes.now.ranges _ _ _ _ _ c.requires
    c.in_ok-push_data_borders.ensures.kept c.in_ok-push_data_borders.ensures.added c.in_ok-push_data_borders-2.ensures.kept c.in_ok-push_data_borders-2.ensures.added
    c.ranges-2.ensures.value adds) c.push_ranges.ensures
