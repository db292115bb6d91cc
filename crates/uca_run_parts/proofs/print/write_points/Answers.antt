use Rattle.std.proofs.Common.{refl, ap, ◌∙◌}
use Rattle.uca_run_parts.specs.Print.{spaced_point}
use Rattle.uca_lines.proofs.BufferedLemmas.{part_fits, part_written, returns_fault, all_parts_written}
use Rattle.uca_run_parts.proofs.print.write_points.Goals as goal

pub write-requires : goal.write-requires
write-requires g c = part_fits spaced_point c.args.points.now c.loop-point.point-index c.point-item.result _ _ refl
    (c.spaced_point.ensures ∙ ap spaced_point c.point-item.is) c.loop-point-test.true c.loop-point.invariant c.requires

pub loop-point-preserved : goal.loop-point-preserved
loop-point-preserved g c = part_written spaced_point c.args.points.now c.loop-point.point-index c.point-item.result (c.spaced_point.ensures ∙ ap spaced_point c.point-item.is)
    c.loop-point-test.true c.loop-point.invariant c.in_ok-write.ensures.writes

pub returns-in_err-write : goal.returns-in_err-write
returns-in_err-write g c = returns_fault spaced_point c.args.points.now c.loop-point.point-index c.point-item.result _ _
    c.from_residual.result refl (c.spaced_point.ensures ∙ ap spaced_point c.point-item.is) c.loop-point-test.true c.loop-point.invariant c.in_err-write.ensures.writes
    c.from_residual.ensures.1

pub returns : goal.returns
returns g c = all_parts_written spaced_point c.args.points.now c.loop-point.point-index _ refl c.loop-point-test.false c.loop-point.invariant
