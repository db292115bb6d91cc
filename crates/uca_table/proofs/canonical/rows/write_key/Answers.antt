use Rattle.std.proofs.Common.{refl, ap}
use Rattle.uca_table.specs.Canonical.{key_point_text, key_text}
use Rattle.uca_lines.proofs.BufferedLemmas.{part_fits, part_written, returns_fault, all_parts_written}
use Rattle.uca_table.proofs.canonical.rows.write_key.Goals as goal

pub write_key_point-requires : goal.write_key_point-requires
unfolding key_text
write_key_point-requires g c = part_fits key_point_text c.args.key.now c.loop-point.point-index c.point-item.result _ _ refl
    (ap key_point_text c.point-item.is) c.loop-point-test.true c.loop-point.invariant c.requires

pub loop-point-preserved : goal.loop-point-preserved
loop-point-preserved g c = part_written key_point_text c.args.key.now c.loop-point.point-index c.point-item.result (ap key_point_text c.point-item.is)
    c.loop-point-test.true c.loop-point.invariant c.in_ok-write_key_point.ensures

pub returns-in_err-write_key_point : goal.returns-in_err-write_key_point
unfolding key_text
returns-in_err-write_key_point g c = returns_fault key_point_text c.args.key.now c.loop-point.point-index c.point-item.result _ _
    c.from_residual.result refl (ap key_point_text c.point-item.is) c.loop-point-test.true c.loop-point.invariant c.in_err-write_key_point.ensures
    c.from_residual.ensures.1

pub returns : goal.returns
unfolding key_text
returns g c = all_parts_written key_point_text c.args.key.now c.loop-point.point-index _ refl c.loop-point-test.false c.loop-point.invariant
