-- What went out of the header and of the lines.
use Rattle.std.proofs.Common.{◌∙◌, Err, IfSome, ap, length, subst, sym}
use Rattle.uca_run_parts.specs.EachLine.{ended_before_input}
use Rattle.uca_run_parts.specs.Runs.{is_input_read}
use Rattle.uca_run_parts.proofs.Running.{as_before}
use Rattle.uca_order.specs.Keyings.{keying_of, text_of}
use Rattle.uca_key_runs.specs.KeysRun.{WritesAfter}
use Rattle.uca_key_runs.specs.inside.KeyForms.{line_as}
use Rattle.uca_key_runs.proofs.KeyRuns.{after, input_after, out_after, part_of_header, same_before_input}
use Rattle.uca_key_runs.proofs.ShortOutput.{output_short}
use Rattle.uca_key_runs.proofs.runs.print_after.Goals as goal

pub returns-in-Ok-clause-writes : goal.returns-in-Ok-clause-writes
returns-in-Ok-clause-writes g c =
    let keying = keying_of g.L.Lookup.content c.args.collator.now c.args.settings in
    let read_of = text_of keying in
    let bytes_of = line_as c.args.form c.args.book keying in
    let header = c.args.header.now in
    let known = c.args.input.now.remaining in
    let left = c.print_lines-end.new.input.remaining in
    let begun = c.args.out.now.contents in
    let now = c.print_lines-end.new.out.contents in
    subst (λ end. IfSome known (λ bytes. WritesAfter header read_of bytes_of bytes left begun now end)) (sym c.after_header.ensures)
    (after header read_of bytes_of c.requires.short known left begun c.write_text.new.out.contents now c.print_lines-end.result
    (λ bytes. output_short c.args.form c.args.book keying bytes c.requires.rows) c.in-Ok.ensures.written c.print_lines-end.ensures.writes)

pub returns-in-Ok-clause-of_lines : goal.returns-in-Ok-clause-of_lines
returns-in-Ok-clause-of_lines g c = ap ended_before_input c.after_header.ensures ∙ same_before_input _ c.print_lines-end.result ∙ c.print_lines-end.ensures.of_lines

pub returns-in-Ok-clause-input_failed : goal.returns-in-Ok-clause-input_failed
returns-in-Ok-clause-input_failed g c = input_after (length c.args.header.now) c.print_lines-end.result c.after_header.result c.args.input.now.failed
    c.print_lines-end.new.input.failed c.after_header.ensures c.print_lines-end.ensures.input_failed

pub returns-in-Ok-clause-out_failed : goal.returns-in-Ok-clause-out_failed
returns-in-Ok-clause-out_failed g c = out_after (length c.args.header.now) c.print_lines-end.result c.after_header.result c.args.out.now.failed
    c.write_text.new.out.failed c.print_lines-end.new.out.failed c.after_header.ensures c.in-Ok.ensures.failed c.print_lines-end.ensures.out_failed

pub returns-in-Err-clause-writes : goal.returns-in-Err-clause-writes
returns-in-Err-clause-writes g c =
    let keying = keying_of g.L.Lookup.content c.args.collator.now c.args.settings in
    part_of_header c.args.header.now (text_of keying) (line_as c.args.form c.args.book keying) c.requires.short c.args.input.now.remaining c.args.input.now.remaining
    c.args.out.now.contents c.write_text.new.out.contents c.in-Err.fault c.in-Err.ensures.failed_in

pub returns-in-Err-clause-of_lines : goal.returns-in-Err-clause-of_lines
returns-in-Err-clause-of_lines g c = ap (λ f. ended_before_input {A = Unit {0}} (Err f)) c.in-Err.ensures.failed_in.1

pub returns-in-Err-clause-input_failed : goal.returns-in-Err-clause-input_failed
returns-in-Err-clause-input_failed g c = λ none. as_before c.args.input.now.failed _ (ap (λ f. is_input_read {A = Unit {0}} (Err f)) c.in-Err.ensures.failed_in.1)
