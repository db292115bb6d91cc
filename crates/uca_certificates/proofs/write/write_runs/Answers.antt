-- Each line is written after those before it.
use Rattle.std.proofs.Common.{refl}
use Rattle.uca_lines.proofs.BufferedLemmas.{written_none, part_fits, part_written, returns_fault, all_parts_written}
use Rattle.uca_certificates.specs.inside.Steps.{level_text}
use Rattle.uca_certificates.proofs.WriteLaws.{line_at}
use Rattle.uca_certificates.proofs.write.write_runs.Goals as goal

pub loop-run-init : goal.loop-run-init
unfolding level_text
loop-run-init g c = written_none c.args.buffer.now c.args.out.now

pub write-requires : goal.write-requires
unfolding level_text
write-requires g c = part_fits (line_at c.args.level) c.args.runs.now c.loop-run.run-index _ _ _ refl c.run_line.ensures c.loop-run-test.true
    c.loop-run.invariant c.requires

pub loop-run-preserved : goal.loop-run-preserved
unfolding level_text
loop-run-preserved g c = part_written (line_at c.args.level) c.args.runs.now c.loop-run.run-index _ c.run_line.ensures
    c.loop-run-test.true c.loop-run.invariant c.in_ok-write.ensures.writes

pub returns-in_err-write : goal.returns-in_err-write
unfolding level_text
returns-in_err-write g c = returns_fault (line_at c.args.level) c.args.runs.now c.loop-run.run-index _ _ _ c.from_residual.result refl
    c.run_line.ensures c.loop-run-test.true c.loop-run.invariant c.in_err-write.ensures.writes c.from_residual.ensures.1

pub returns : goal.returns
unfolding level_text
returns g c = all_parts_written (line_at c.args.level) c.args.runs.now c.loop-run.run-index _ refl c.loop-run-test.false c.loop-run.invariant
