use Rattle.std.proofs.Common.{List, ℕ, ap, subst, sym, ◌∙◌}
use Rattle.std.specs.Slice.Iter.{chunks_rest, chunks_size}
use Rattle.std.proofs.lemmas.Result.{err_from_is_err_and}
use Rattle.uca_lines.specs.Buffered.{HasWrittenThrough}
use Rattle.uca_lines.proofs.BufferedLemmas.{written_then, fails_then}
use Rattle.uca_run_parts.proofs.PrintLemmas.{written_up_to_start, goes_on, piece_fits, written_up_to_more, text_from, all_groups}
use Rattle.uca_run_parts.proofs.print.write_groups.Goals as goal

pub loop-part-init : goal.loop-part-init
loop-part-init g c =
    let is = c.into_iter-part-iterator.ensures.into_iter_gives in
    record {
      size = ap chunks_size is ∙ c.chunks-part-items.ensures.size;
      up_to = written_up_to_start _ _ _ _ (ap chunks_rest is ∙ c.chunks-part-items.ensures.rest);
    }

pub slice_bounds-write-count : goal.slice_bounds-write-count
slice_bounds-write-count g c = text_from _ _ _ _ _ _ _ _ _ _ _ c.loop-part.invariant.up_to c.in-Some.ensures.steps.1 c.loop-part.invariant.size c.spaced_text-text.ensures

pub slice_bounds-write-start : goal.slice_bounds-write-start
slice_bounds-write-start g c = text_from _ _ _ _ _ _ _ _ _ _ _ c.loop-part.invariant.up_to c.in-Some.ensures.steps.1 c.loop-part.invariant.size c.spaced_text-text.ensures

pub write-requires : goal.write-requires
write-requires g c =
    let i = c.loop-part.invariant in
    piece_fits _ _ _ _ _ _ _ _ i.up_to.written_through (goes_on _ _ _ _ _ _ _ _ _ _ _ i.up_to i.size c.in-Some.ensures.steps.1 c.spaced_text-text.ensures) c.requires

pub loop-part-preserved : goal.loop-part-preserved
loop-part-preserved g c =
    let i = c.loop-part.invariant in
    let on = goes_on _ _ _ _ _ _ _ _ _ _ _ i.up_to i.size c.in-Some.ensures.steps.1 c.spaced_text-text.ensures in
    record {
      size = c.in-Some.ensures.steps.0 ∙ i.size;
      up_to = written_up_to_more _ _ _ _ _ _ _ _ _ _ _ _ i.up_to i.size c.in-Some.ensures.steps.1
          (subst (λ (text : List ℕ). HasWrittenThrough text c.args.buffer.now c.write.new.self c.args.out.now c.write.new.out) (sym on.grown) (written_then i.up_to.written_through c.in_ok-write.ensures.writes));
    }

pub returns-in_err-write : goal.returns-in_err-write
returns-in_err-write g c =
    let i = c.loop-part.invariant in
    let on = goes_on _ _ _ _ _ _ _ _ _ _ _ i.up_to i.size c.in-Some.ensures.steps.1 c.spaced_text-text.ensures in
    let p = err_from_is_err_and c.from_residual.result c.from_residual.ensures.1 in
    rw (p.1, p.2, on.line) (fails_then on.more i.up_to.written_through c.in_err-write.ensures.writes)

pub returns : goal.returns
returns g c = all_groups _ _ _ _ _ _ _ c.loop-part.invariant.up_to c.in-None.ensures.steps.1.0
