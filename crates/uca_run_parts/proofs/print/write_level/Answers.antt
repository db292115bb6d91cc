-- The identical level goes out part by part.
use Rattle.std.proofs.Common.{[], refl, arith}
use Rattle.uca_lines.proofs.BufferedLemmas.{part, written_none, part_fits, part_written, returns_fault, returns_last}
use Rattle.uca_run_parts.proofs.PrintLemmas.{level_parts, level_is}
use Rattle.uca_run_parts.proofs.print.write_level.Goals as goal

pub write-requires : goal.write-requires
write-requires g c = part_fits part (level_parts c.args.points.now) 0 [] _ _ (level_is c.args.points.now) refl (omega arith) (written_none c.args.buffer.now c.args.out.now)
    (rw c.in-Identical.is at c.requires)

pub returns-in_err-write-in-Identical : goal.returns-in_err-write-in-Identical
returns-in_err-write-in-Identical g c = rw c.in-Identical.is (returns_fault part (level_parts c.args.points.now) 0 [] _ _ c.from_residual.result (level_is c.args.points.now) refl (omega arith)
    (written_none c.args.buffer.now c.args.out.now) c.in_err-write-in-Identical.ensures.writes c.from_residual.ensures.1)

pub write_points-requires : goal.write_points-requires
write_points-requires g c = part_fits part (level_parts c.args.points.now) 1 [] _ _ (level_is c.args.points.now) refl (omega arith)
    (part_written part (level_parts c.args.points.now) 0 [] refl (omega arith) (written_none c.args.buffer.now c.args.out.now) c.in_ok-write-in-Identical.ensures.writes)
    (rw c.in-Identical.is at c.requires)

pub returns-in_ok-write-in-Identical : goal.returns-in_ok-write-in-Identical
returns-in_ok-write-in-Identical g c = rw c.in-Identical.is (returns_last part (level_parts c.args.points.now) 1 [] _ _ _ _ c.write_points.result (level_is c.args.points.now) refl (omega arith)
    (part_written part (level_parts c.args.points.now) 0 [] refl (omega arith) (written_none c.args.buffer.now c.args.out.now) c.in_ok-write-in-Identical.ensures.writes)
    c.write_points.ensures)
