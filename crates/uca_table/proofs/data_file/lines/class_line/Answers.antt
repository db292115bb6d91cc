use Rattle.std.proofs.Common.{sym}
use Rattle.uca_table.proofs.DataSoFarLemmas.{class_is}
use Rattle.uca_table.proofs.data_file.lines.class_line.Goals as goal

pub returns-in-Some-clause-numbered : goal.returns-in-Some-clause-numbered
returns-in-Some-clause-numbered c = class_is c.args.number.now c.in-Some.class (sym c.in-Some.ensures)
