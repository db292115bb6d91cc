use Rattle.uca_editions.proofs.Refusals.{no_change_listed}
use Rattle.uca_editions.proofs.maker.find_everything.Goals as goal

pub returns-in-Err-clause-refused : goal.returns-in-Err-clause-refused
returns-in-Err-clause-refused g c =
    no_change_listed c.args.editions.now c.in-Err.fault
    (record { texts = c.in_ok-found.found.list.texts; ranges = c.in_ok-found.found.list.ranges }) c.in_ok-found.found.certificate
    c.in_ok-found.ensures c.in-Err.ensures.refused
