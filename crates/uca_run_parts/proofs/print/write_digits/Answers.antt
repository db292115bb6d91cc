use Rattle.std.proofs.Common.{List, ℕ, length, ap, subst, sym, ◌∙◌}
use Rattle.std.specs.Slice.Iter.{chunks_rest, chunks_size}
use Rattle.std.proofs.lemmas.Result.{err_from_is_err_and}
use Rattle.uca_lines.specs.Buffered.{HasRoom, HasWrittenThrough, FailsToWriteThrough}
use Rattle.uca_lines.proofs.BufferedLemmas.{fails_then}
use Rattle.uca_run_parts.proofs.PrintLemmas.{digits_start, digits_go_on, digits_fit, digits_more, all_digits}
use Rattle.uca_run_parts.proofs.print.write_digits.Goals as goal

pub loop-part-init : goal.loop-part-init
loop-part-init g c =
    let is = c.into_iter-part-iterator.ensures.into_iter_gives in
    record {
      size = ap chunks_size is ∙ c.chunks-part-items.ensures.size;
      up_to = digits_start _ _ _ _ (ap chunks_rest is ∙ c.chunks-part-items.ensures.rest);
    }

pub write-requires : goal.write-requires
write-requires g c =
    subst (λ (text : List ℕ). HasRoom c.loop-part.buffer (length text)) (sym c.digits_in.ensures)
    (digits_fit _ _ _ _ _ _ _ _ c.loop-part.invariant.up_to c.in-Some.ensures.steps.1.0 c.requires)

pub loop-part-preserved : goal.loop-part-preserved
loop-part-preserved g c =
    let i = c.loop-part.invariant in
    record {
      size = c.in-Some.ensures.steps.0 ∙ i.size;
      up_to = digits_more _ _ _ _ _ _ _ _ _ _ i.up_to c.in-Some.ensures.steps.1.0
          (subst (λ (text : List ℕ). HasWrittenThrough text c.loop-part.buffer c.write.new.self c.loop-part.out c.write.new.out) c.digits_in.ensures c.in_ok-write.ensures.writes);
    }

pub returns-in_err-write : goal.returns-in_err-write
returns-in_err-write g c =
    let i = c.loop-part.invariant in
    let p = err_from_is_err_and c.from_residual.result c.from_residual.ensures.1 in
    let on = digits_go_on _ _ _ _ _ _ _ _ i.up_to c.in-Some.ensures.steps.1.0 in
    rw (p.1, p.2, on) (fails_then _ i.up_to.written_through
    (subst (λ (text : List ℕ). FailsToWriteThrough text c.loop-part.buffer c.loop-part.out c.write.new.out c.in_err-write.field-0.0.written) c.digits_in.ensures c.in_err-write.ensures.writes))

pub returns : goal.returns
returns g c = all_digits _ _ _ _ _ _ c.loop-part.invariant.up_to c.in-None.ensures.steps.1.0
