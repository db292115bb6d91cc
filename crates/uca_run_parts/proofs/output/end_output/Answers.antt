-- What went out, from what was written.
use Rattle.std.proofs.Common.{sym, ◌∙◌}
use Rattle.std.proofs.lemmas.Result.{err_from_is_err_and}
use Rattle.uca_run_parts.proofs.Finishing.{write_stays, flushed, not_flushed, rest_fails}
use Rattle.uca_run_parts.proofs.output.end_output.Goals as goal

pub returns-then-is_write_fault-clause-writes : goal.returns-then-is_write_fault-clause-writes
returns-then-is_write_fault-clause-writes g c = λ read_of bytes_of start begun input rest.
    write_stays read_of bytes_of start begun input.remaining input c.args.output.now c.args.out.now c.args.end rest (sym c.is_write_fault.ensures ∙ c.if-is_write_fault.true)

pub returns-clause-writes : goal.returns-clause-writes
returns-clause-writes g c = λ read_of bytes_of start begun input rest.
    flushed read_of bytes_of start begun input c.args.output.now c.args.out.now c.flush.new.out c.args.end rest (sym c.is_write_fault.ensures ∙ c.if-is_write_fault.false)
    (λ text written. c.in_ok-flush.ensures.text begun text written)

pub returns-in_err-flush-clause-writes : goal.returns-in_err-flush-clause-writes
returns-in_err-flush-clause-writes g c = λ read_of bytes_of start begun input rest.
    let p = err_from_is_err_and c.from_residual.result c.from_residual.ensures.1 in
    rw (p.1, p.2) (not_flushed read_of bytes_of start begun input.remaining input c.args.output.now c.args.out.now c.flush.new.out c.args.end c.in_err-flush.field-0.0.written
    rest (sym c.is_write_fault.ensures ∙ c.if-is_write_fault.false) (λ text written. rest_fails begun c.args.out.now.contents c.flush.new.out.contents text c.args.output.now c.in_err-flush.field-0.0.written
    (c.in_err-flush.ensures.text begun text written) c.in_err-flush.ensures.not_all written))
