-- With headers and without them.
use Rattle.uca_rekey.proofs.change_run.ChangeRun.change_lines.Goals as goal

pub returns-in-Some-clause-changes : goal.returns-in-Some-clause-changes
returns-in-Some-clause-changes g c = rw c.in-Some.is c.change_headed.ensures.changes

pub returns-in-None-clause-changes : goal.returns-in-None-clause-changes
returns-in-None-clause-changes g c = rw c.in-None.is c.change_all.ensures.changes
