-- What waits after the line and its LF.
use Rattle.std.proofs.Common.{◌≡◌, ◌+◌, ◌-◌, drop, ap, ◌∙◌, arith, length, length-take}
use Rattle.std.specs.List.{slice_range}
use Rattle.uca_rekey.specs.inside.LinesInPlace.{LinesState}
use Rattle.uca_rekey.proofs.Places.{rest_of_range}
use Rattle.uca_rekey.proofs.lines.KeyLines.take_line.Goals as goal

pub returns-clause-pending : goal.returns-clause-pending
returns-clause-pending g c =
    let old = c.self.inside in
    let bytes = old.buffer.items in
    let place : old.next + c.args.len + 1 ≡ old.next + (c.args.len + 1) = omega arith in
    let long = ap (λ (s : LinesState). length s.pending) c.self.view_is in
    ap (λ k. slice_range bytes k old.end) place
    ∙ rest_of_range bytes old.next (c.args.len + 1) old.end (omega (arith, c.requires.within, long, length-take (old.end - old.next) (drop old.next bytes)))
    ∙ ap (λ (s : LinesState). drop (c.args.len + 1) s.pending) c.self.view_is

pub overflow_add-self : goal.overflow_add-self
overflow_add-self g c =
    let old = c.self.inside in
    omega (arith, c.requires.within, ap (λ (s : LinesState). length s.pending) c.self.view_is, length-take (old.end - old.next) (drop old.next old.buffer.items))

pub overflow_add-self-2 : goal.overflow_add-self-2
overflow_add-self-2 g c =
    let old = c.self.inside in
    omega (arith, c.requires.within, ap (λ (s : LinesState). length s.pending) c.self.view_is, length-take (old.end - old.next) (drop old.next old.buffer.items))

pub invariant_of-self : goal.invariant_of-self
invariant_of-self g c =
    let old = c.self.inside in
    let long = ap (λ (s : LinesState). length s.pending) c.self.view_is in (
      omega arith,
      omega arith,
      omega (arith, c.requires.within, long, length-take (old.end - old.next) (drop old.next old.buffer.items)),
      omega arith,
      omega arith,
      omega (arith, c.requires.short),
    )
