-- A line that is rejected, and a file that ends without a version.
use Rattle.uca_table.proofs.ReadLaws.{refused_line, refused_end}
use Rattle.uca_table.proofs.read.read_to_end.Goals as goal

pub returns-in-Err-clause-fault : goal.returns-in-Err-clause-fault
returns-in-Err-clause-fault g c = rw c.into.ensures (refused_line _ _ _ _ c.in-Err.ensures.fault)

pub returns-in-None-clause-fault : goal.returns-in-None-clause-fault
returns-in-None-clause-fault g c = refused_end _ _ c.in-Ok.count _ c.in-Ok.ensures.found c.in-None.ensures
