-- What is found, or why nothing is.
use Rattle.std.proofs.Common.{Err, ap}
use Rattle.uca_change_runs.specs.inside.ReadChanges.{editions_of}
use Rattle.uca_change_runs.proofs.EditionsRead.{not_found}
use Rattle.uca_change_runs.proofs.changes.find_between.Goals as goal

pub returns-in-Err : goal.returns-in-Err
returns-in-Err g c =
    not_found {F = g.row.M.Denot} (Err c.from.result) (editions_of c.args.files.now) c.in-Err.fault (ap Err c.from.ensures)
    c.in-Err.ensures.refused

pub returns-in-Ok : goal.returns-in-Ok
returns-in-Ok g c = record { accepted = c.in-Ok.ensures.accepted; meaning = c.in-Ok.ensures.meaning }
