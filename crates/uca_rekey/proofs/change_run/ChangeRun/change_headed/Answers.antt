-- The lines after the header; or why the first line is not the header.
use Rattle.std.proofs.Common.{◌||◌, List, ℕ, Some, IfSome, ap, sym, subst, subst₂, ◌∙◌}
use Rattle.std.proofs.Math.Bool.{or-false}
use Rattle.uca_lines.specs.Lines.{lines_of}
use Rattle.uca_run_parts.specs.Runs.{is_input_read}
use Rattle.uca_rekey.specs.ChangeRun.{HasHeaderCause, RunsChange}
use Rattle.uca_rekey.specs.inside.ChangeSoFar.{header_pair}
use Rattle.uca_rekey.proofs.Changing.{ends_changed, header_read, runs_after_header, runs_without_header}
use Rattle.uca_rekey.proofs.LinesRead.{nothing_read}
use Rattle.uca_rekey.proofs.change_run.ChangeRun.change_headed.Goals as goal

pub returns-in-Ok-clause-changes : goal.returns-in-Ok-clause-changes
returns-in-Ok-clause-changes g c =
    let self = c.args.self.now in
    let means = g.C.ChangesKeys.means self.change in
    let input = c.args.input.now in
    let out = c.args.out.now in
    let end = c.change_after-end in
    let old = c.as_bytes.result.now in
    let new = c.as_bytes-in-Ok.result.now in
    let read = header_read means self.lines input self.written out c.requires old c.read_header.new.self c.read_header.new.source c.in-Ok.ensures.reads in
    let rest = end.ensures.changes old input.remaining out.contents c.as_bytes-in-Ok.ensures.short read in
    let writes = ends_changed means (Some (header_pair old new)) input.remaining out.contents end.new.input end.new.out end.new.self.written.buffer c.end.new.out end.result c.end.result
    rest c.end.ensures.ends in
    let runs = runs_after_header means input end.new.input out c.end.new.out (header_pair old new) c.end.result writes in
    subst₂ (λ (o n : List ℕ). RunsChange means (Some (header_pair o n)) input end.new.input out c.end.new.out c.end.result) c.as_bytes.ensures.line
    c.as_bytes-in-Ok.ensures.line runs

pub returns-in-Ok-clause-of_lines : goal.returns-in-Ok-clause-of_lines
returns-in-Ok-clause-of_lines g c = c.end.ensures.of_lines c.change_after-end.ensures.of_lines

pub returns-in-Ok-clause-input_failed : goal.returns-in-Ok-clause-input_failed
returns-in-Ok-clause-input_failed g c = λ none.
    let read = c.in-Ok.ensures.failed ∙ or-false _ in
    c.change_after-end.ensures.input_failed ∙ ap (λ b. b || is_input_read c.change_after-end.result) read
    ∙ ap (λ b. c.args.input.now.failed || b) (sym (c.end.ensures.not_read none))

pub returns-in-Ok-clause-out_failed : goal.returns-in-Ok-clause-out_failed
returns-in-Ok-clause-out_failed g c = c.end.ensures.failed c.args.out.now.failed c.change_after-end.ensures.out_failed

pub returns-in-Err-clause-changes : goal.returns-in-Err-clause-changes
returns-in-Err-clause-changes g c =
    let self = c.args.self.now in
    let input = c.args.input.now in
    let start = input.remaining in
    let cause = c.in-Err.ensures.reads start (nothing_read start self.lines c.requires.pending c.requires.at_end) in
    runs_without_header (g.C.ChangesKeys.means self.change) (header_pair c.args.headers.now.from c.args.headers.now.to) c.in-Err.kind input c.read_header.new.source c.args.out.now
    (subst (λ (header : List ℕ). IfSome start (λ bytes. HasHeaderCause header bytes c.read_header.new.source.remaining (lines_of bytes) c.in-Err.kind)) c.as_bytes.ensures.line
    cause)
