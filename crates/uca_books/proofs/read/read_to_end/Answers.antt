-- A line is rejected.
use Rattle.uca_books.proofs.FileLaws.{rejected_line}
use Rattle.uca_books.proofs.read.read_to_end.Goals as goal

pub returns-in-Err-clause-fault : goal.returns-in-Err-clause-fault
returns-in-Err-clause-fault g c =
    let fault = c.in-Err.fault in
    rw c.from.ensures (rejected_line _ _ (record { line = fault.line; kind = fault.kind }) c.in-Err.ensures.fault)
