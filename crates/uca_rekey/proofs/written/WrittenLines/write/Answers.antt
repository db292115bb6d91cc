-- The numbers fit, and the buffer is the one that the lines went to.
use Rattle.std.proofs.Common.{[], ◌∷◌, ap, refl, subst, arith, length-append}
use Rattle.uca_lines.specs.Buffered.{HasWrittenThrough, count_of}
use Rattle.uca_lines.specs.Lines.{ended}
use Rattle.uca_lines.specs.OutputBuffer.{BufferState}
use Rattle.uca_rekey.specs.inside.ChangeSoFar.{WrittenState}
use Rattle.uca_rekey.proofs.written.WrittenLines.write.Goals as goal

pub overflow_sub-self-inside : goal.overflow_sub-self-inside
overflow_sub-self-inside g c = omega arith

pub overflow_add-result : goal.overflow_add-result
overflow_add-result g c = omega arith

pub returns-then-len-self-clause-writes : goal.returns-then-len-self-clause-writes
returns-then-len-self-clause-writes g c = (
  omega (arith, ap (λ (w : WrittenState). w.number) c.self.view_is),
  refl,
  omega (arith, ap (λ (w : WrittenState). count_of w.buffer) c.self.view_is, c.self.invariant.0, length-append c.args.line.now (10 ∷ []), c.if-len-self.true),
  refl,
  refl,
)

pub overflow_add-self : goal.overflow_add-self
overflow_add-self g c = omega arith

pub overflow_add-self-in-Ok : goal.overflow_add-self-in-Ok
overflow_add-self-in-Ok g c = omega arith

pub overflow_add-self-in-Ok-2 : goal.overflow_add-self-in-Ok-2
overflow_add-self-in-Ok-2 g c = omega arith

pub invariant_of-self : goal.invariant_of-self
invariant_of-self g c =
    let count = c.in-Ok.ensures.writes.count in (
      omega (arith, count, c.self.invariant.0, length-append c.args.line.now (10 ∷ [])),
      omega (arith, c.self.invariant.1),
      omega (arith, c.if-len-self.false, c.self.invariant.2),
    )

pub invariant_of-self-in-Err : goal.invariant_of-self-in-Err
invariant_of-self-in-Err g c = c.self-in-Err.invariant

pub returns-in-Ok-clause-writes : goal.returns-in-Ok-clause-writes
returns-in-Ok-clause-writes g c = (
  subst (λ (b : BufferState). HasWrittenThrough (ended c.args.line.now) b c.write_line.new.output c.args.out.now c.write_line.new.out)
      (ap (λ (w : WrittenState). w.buffer) c.self.view_is) c.in-Ok.ensures.writes,
  omega (arith, ap (λ (w : WrittenState). w.number) c.self.view_is),
)
