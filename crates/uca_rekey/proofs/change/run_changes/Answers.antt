-- A run that ended by its lines ended neither before its input nor by a file.
use Rattle.std.proofs.Common.{subst}
use Rattle.uca_run_parts.proofs.Finishing.{before_file}
use Rattle.uca_run_parts.proofs.Running.{not_both}
use Rattle.uca_rekey.specs.ChangeRun.{RunsChange}
use Rattle.uca_rekey.specs.inside.ChangeSoFar.{headers_of}
use Rattle.uca_rekey.proofs.change.run_changes.Goals as goal

pub change_lines-end-requires : goal.change_lines-end-requires
change_lines-end-requires g c = c.in-Ok.ensures.begun

pub returns-in-Ok-clause-changes : goal.returns-in-Ok-clause-changes
returns-in-Ok-clause-changes g c =
    let end = c.change_lines-end in
    subst (λ x. RunsChange (g.C.ChangesKeys.means x) (headers_of c.args.headers) c.args.input.now end.new.input c.args.out.now end.new.out end.result)
    c.in-Ok.ensures.same end.ensures.changes

pub returns-in-Ok-clause-nothing_written : goal.returns-in-Ok-clause-nothing_written
returns-in-Ok-clause-nothing_written g c = not_both _ c.change_lines-end.ensures.of_lines

pub returns-in-Ok-clause-no_file : goal.returns-in-Ok-clause-no_file
returns-in-Ok-clause-no_file g c = before_file c.change_lines-end.result c.change_lines-end.ensures.of_lines
