-- The new header was written, and the lines after it; or why it was not.
use Rattle.std.proofs.Common.{[], ◌∷◌, Some}
use Rattle.uca_rekey.specs.inside.ChangeSoFar.{header_pair}
use Rattle.uca_rekey.proofs.Changing.{new_header_not_written, new_header_written}
use Rattle.uca_rekey.proofs.Headers.{line_not_before}
use Rattle.uca_rekey.proofs.change_run.ChangeRun.change_after.Goals as goal

pub returns-in-Ok-clause-changes : goal.returns-in-Ok-clause-changes
returns-in-Ok-clause-changes g c = λ old start begun short h.
    let self = c.args.self.now in
    let to = c.args.header.now in
    let writes = c.in-Ok.ensures.writes in
    c.change_rest.ensures.changes (Some (header_pair old to)) start begun (old ∷ []) (to ∷ [])
    (new_header_written (g.C.ChangesKeys.means self.change) old to start begun self.lines c.args.input.now self.written c.write.new.self c.args.out.now
    c.write.new.out h writes.0 writes.1)

pub returns-in-Err-clause-changes : goal.returns-in-Err-clause-changes
returns-in-Err-clause-changes g c = λ old start begun short h.
    let self = c.args.self.now in
    new_header_not_written (g.C.ChangesKeys.means self.change) old c.args.header.now start begun self.lines c.args.input.now self.written c.write.new.self
    c.args.out.now c.write.new.out h c.in-Err.fault short c.in-Err.ensures.writes

pub returns-in-Err-clause-of_lines : goal.returns-in-Err-clause-of_lines
returns-in-Err-clause-of_lines g c =
    line_not_before c.args.header.now c.args.self.now.written c.write.new.self c.args.out.now c.write.new.out c.in-Err.fault c.in-Err.ensures.writes
