use Rattle.uca_weights.proofs.RunMaps.{faulty_not_proper}
use Rattle.uca_tailor.proofs.plan.map_of.Goals as goal

pub unreachable-requires : goal.unreachable-requires
unreachable-requires g c = faulty_not_proper c.args.level c.args.runs.items c.in-Err.field-0 c.in-Err.ensures.fault c.requires
