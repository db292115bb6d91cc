use Rattle.std.proofs.Common.{refl, ap}
use Rattle.uca_lines.specs.Lines.{ended}
use Rattle.uca_table.specs.Canonical.{row_line}
use Rattle.uca_table.specs.inside.CanonicalLineTexts.{row_lines}
use Rattle.uca_lines.proofs.BufferedLemmas.{part_fits, part_written, returns_fault, all_parts_written}
use Rattle.uca_table.proofs.canonical.rows.write_rows.Goals as goal

pub write_row-requires : goal.write_row-requires
unfolding row_lines
write_row-requires g c = part_fits (λ row. ended (row_line row)) c.args.rows.now c.loop-row.row-index c.row-item.result _ _ refl
    (ap (λ row. ended (row_line row)) c.row-item.is) c.loop-row-test.true c.loop-row.invariant c.requires

pub loop-row-preserved : goal.loop-row-preserved
loop-row-preserved g c = part_written (λ row. ended (row_line row)) c.args.rows.now c.loop-row.row-index c.row-item.result
    (ap (λ row. ended (row_line row)) c.row-item.is) c.loop-row-test.true c.loop-row.invariant c.in_ok-write_row.ensures

pub returns-in_err-write_row : goal.returns-in_err-write_row
unfolding row_lines
returns-in_err-write_row g c = returns_fault (λ row. ended (row_line row)) c.args.rows.now c.loop-row.row-index c.row-item.result _ _
    c.from_residual.result refl (ap (λ row. ended (row_line row)) c.row-item.is) c.loop-row-test.true c.loop-row.invariant c.in_err-write_row.ensures
    c.from_residual.ensures.1

pub returns : goal.returns
unfolding row_lines
returns g c = all_parts_written (λ row. ended (row_line row)) c.args.rows.now c.loop-row.row-index _ refl c.loop-row-test.false c.loop-row.invariant
