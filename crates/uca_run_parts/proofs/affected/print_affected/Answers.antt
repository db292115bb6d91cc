-- What went out, from what was written.
use Rattle.std.proofs.Common.{◌≡◌, ◌||◌, [], subst, sym}
use Rattle.uca_values.specs.Content.{properties_of}
use Rattle.uca_run_parts.specs.AffectedRun.{line_if}
use Rattle.uca_run_parts.specs.Input.{line_text}
use Rattle.uca_run_parts.proofs.Finishing.{started, of_lines}
use Rattle.uca_run_parts.proofs.affected.print_affected.Goals as goal

pub returns-clause-writes : goal.returns-clause-writes
returns-clause-writes g c =
    let read_of = line_text c.args.numbers (properties_of c.args.properties.now) in
    let bytes_of = line_if (g.X.Affects.affects c.args.affects.now) read_of in
    let input = c.args.input.now in
    let out = c.args.out.now in
    let begin = started read_of bytes_of c.new.result.lines input c.new-2.result out (c.new.ensures.read read_of input) c.new-2.ensures.held c.new-2.ensures.written in
    c.end_output-end.ensures.writes read_of bytes_of input.remaining out.contents c.print_rest-end.new.input (c.print_rest-end.ensures.prints input.remaining out.contents [] begin)

pub returns-clause-of_lines : goal.returns-clause-of_lines
returns-clause-of_lines g c =
    let read_of = line_text c.args.numbers (properties_of c.args.properties.now) in
    let bytes_of = line_if (g.X.Affects.affects c.args.affects.now) read_of in
    let input = c.args.input.now in
    let out = c.args.out.now in
    let begin = started read_of bytes_of c.new.result.lines input c.new-2.result out (c.new.ensures.read read_of input) c.new-2.ensures.held c.new-2.ensures.written in
    c.end_output-end.ensures.of_lines (of_lines read_of bytes_of input.remaining out.contents c.print_rest-end.new.input c.print_rest-end.new.self.output c.print_rest-end.new.out c.print_rest-end.result
    (c.print_rest-end.ensures.prints input.remaining out.contents [] begin))

pub returns-clause-input_failed : goal.returns-clause-input_failed
returns-clause-input_failed g c = λ none. subst (λ b. c.print_rest-end.new.input.failed ≡ (c.args.input.now.failed || b)) (sym (c.end_output-end.ensures.not_read none)) c.print_rest-end.ensures.input_failed

pub returns-clause-out_failed : goal.returns-clause-out_failed
returns-clause-out_failed g c = c.end_output-end.ensures.failed c.args.out.now.failed c.print_rest-end.ensures.out_failed
