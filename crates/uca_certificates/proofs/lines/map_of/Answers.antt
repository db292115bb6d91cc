-- The index of an error is within the runs.
use Rattle.std.proofs.Common.{arith}
use Rattle.uca_certificates.proofs.MapLaws.{fault_within}
use Rattle.uca_certificates.proofs.lines.map_of.Goals as goal

pub line_of-requires-clause-within : goal.line_of-requires-clause-within
line_of-requires-clause-within g c = omega (arith, fault_within c.args.level c.args.runs.items c.in-Err.fault c.in-Err.ensures.fault)
