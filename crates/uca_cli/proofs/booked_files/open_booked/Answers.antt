-- With a book and without one.
use Rattle.uca_cli.proofs.booked_files.open_booked.Goals as goal

pub returns-in-Ok-clause-opened : goal.returns-in-Ok-clause-opened
returns-in-Ok-clause-opened g c = rw c.in-None.is c.in-Ok.ensures

pub returns-in-Err-clause-opened : goal.returns-in-Err-clause-opened
returns-in-Err-clause-opened g c = rw c.in-None.is c.in-Err.ensures

pub returns-in-Ok-open_three-clause-opened : goal.returns-in-Ok-open_three-clause-opened
returns-in-Ok-open_three-clause-opened g c = rw c.in-Some.is c.in-Ok-open_three.ensures

pub returns-in-Err-open_three-clause-opened : goal.returns-in-Err-open_three-clause-opened
returns-in-Err-open_three-clause-opened g c = rw c.in-Some.is c.in-Err-open_three.ensures
