-- The table with its own lists is the one that was read.
use Rattle.uca_table.proofs.ReadLaws.{only_of}
use Rattle.uca_table.proofs.read.read_table.Goals as goal

pub returns-in-Ok-unpack-clause-only : goal.returns-in-Ok-unpack-clause-only
returns-in-Ok-unpack-clause-only g c = only_of c.args.source.now.remaining _ _ c.in-Ok.ensures.only c.in-Ok-unpack.ensures
