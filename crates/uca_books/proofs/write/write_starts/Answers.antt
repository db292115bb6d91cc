-- Each line is written after those before it.
use Rattle.std.proofs.Common.{refl}
use Rattle.uca_lines.specs.Lines.{ended}
use Rattle.uca_lines.proofs.BufferedLemmas.{written_none, part_fits, part_written, returns_fault, all_parts_written}
use Rattle.uca_books.specs.BookTexts.{start_line}
use Rattle.uca_books.specs.inside.Steps.{starts_text}
use Rattle.uca_books.proofs.write.write_starts.Goals as goal

pub loop-start-init : goal.loop-start-init
unfolding starts_text
loop-start-init g c = written_none c.args.buffer.now c.args.out.now

pub write-requires : goal.write-requires
unfolding starts_text
write-requires g c = part_fits (λ w. ended (start_line c.args.level w)) c.args.starts.now c.loop-start.start-index _ _ _ refl c.line_bytes.ensures
    c.loop-start-test.true c.loop-start.invariant c.requires

pub loop-start-preserved : goal.loop-start-preserved
unfolding starts_text
loop-start-preserved g c = part_written (λ w. ended (start_line c.args.level w)) c.args.starts.now c.loop-start.start-index _ c.line_bytes.ensures
    c.loop-start-test.true c.loop-start.invariant c.in_ok-write.ensures.writes

pub returns-in_err-write : goal.returns-in_err-write
unfolding starts_text
returns-in_err-write g c = returns_fault (λ w. ended (start_line c.args.level w)) c.args.starts.now c.loop-start.start-index _ _ _ c.from_residual.result refl
    c.line_bytes.ensures c.loop-start-test.true c.loop-start.invariant c.in_err-write.ensures.writes c.from_residual.ensures.1

pub returns : goal.returns
unfolding starts_text
returns g c = all_parts_written (λ w. ended (start_line c.args.level w)) c.args.starts.now c.loop-start.start-index _ refl c.loop-start-test.false
    c.loop-start.invariant
