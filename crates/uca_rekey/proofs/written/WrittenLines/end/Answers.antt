-- What went out, from what was written.
use Rattle.std.proofs.Common.{Err, sym, ap, subst, ◌∙◌}
use Rattle.std.proofs.lemmas.Result.{err_from_is_err_and}
use Rattle.uca_lines.specs.OutputBuffer.{BufferState}
use Rattle.uca_run_parts.specs.Runs.{ended_by_output}
use Rattle.uca_run_parts.specs.declared.faults.RunFault.TheVariants.{Write}
use Rattle.uca_run_parts.proofs.Finishing.{rest_fails}
use Rattle.uca_rekey.specs.inside.ChangeSoFar.{EndsIf, WrittenState}
use Rattle.uca_rekey.proofs.Ending.{ends_failed, ends_short, ends_whole}
use Rattle.uca_rekey.proofs.written.WrittenLines.end.Goals as goal

pub returns-in_err-flush-clause-ends : goal.returns-in_err-flush-clause-ends
returns-in_err-flush-clause-ends g c =
    let p = err_from_is_err_and c.from_residual.result c.from_residual.ensures.1 in
    let count = c.in_err-flush.field-0.0.written in
    let buffer = c.self.inside.output in
    rw (p.1, p.2) (subst (λ (b : BufferState). EndsIf (ended_by_output c.args.end) b c.args.out.now c.flush.new.out c.args.end (Err (Write count)))
    (ap (λ (w : WrittenState). w.buffer) c.self.view_is)
    (ends_short buffer c.args.out.now c.flush.new.out c.args.end count (sym c.is_write_fault.ensures ∙ c.if-is_write_fault.false)
    (λ begun text written. rest_fails begun c.args.out.now.contents c.flush.new.out.contents text buffer count (c.in_err-flush.ensures.text begun text written)
    c.in_err-flush.ensures.not_all written)))

pub returns-then-is_write_fault-clause-ends : goal.returns-then-is_write_fault-clause-ends
returns-then-is_write_fault-clause-ends g c =
    ends_failed c.args.self.now.buffer c.args.out.now c.args.end (sym c.is_write_fault.ensures ∙ c.if-is_write_fault.true)

pub returns-clause-ends : goal.returns-clause-ends
returns-clause-ends g c =
    subst (λ (b : BufferState). EndsIf (ended_by_output c.args.end) b c.args.out.now c.flush.new.out c.args.end c.args.end)
    (ap (λ (w : WrittenState). w.buffer) c.self.view_is)
    (ends_whole c.self.inside.output c.args.out.now c.flush.new.out c.args.end (sym c.is_write_fault.ensures ∙ c.if-is_write_fault.false)
    (λ begun text written. c.in_ok-flush.ensures.text begun text written))
