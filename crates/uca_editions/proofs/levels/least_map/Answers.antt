use Rattle.uca_weights.proofs.RunMaps.{faulty_not_proper}
use Rattle.uca_editions.proofs.LeastRuns.{proper_where_least}
use Rattle.uca_editions.proofs.levels.least_map.Goals as goal

pub unreachable-requires : goal.unreachable-requires
unreachable-requires g c =
    faulty_not_proper c.args.level c.in_ok-least_runs.field-0.items c.in-Err.field-0 c.in-Err.ensures.fault
    (proper_where_least c.args.level c.in_ok-least_runs.field-0.items c.in_ok-least_runs.ensures)
