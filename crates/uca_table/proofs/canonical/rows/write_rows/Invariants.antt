use Rattle.std.proofs.Common.{take}
use Rattle.std.specs.List.{flat_map}
use Rattle.uca_lines.specs.Lines.{ended}
use Rattle.uca_table.specs.Canonical.{row_line}
use Rattle.uca_lines.specs.Buffered.{HasWrittenThrough}
use Rattle.uca_table.proofs.canonical.rows.write_rows.Given as goal

abbrev pub invariant-loop-row : goal.invariant-loop-row
invariant-loop-row g l = HasWrittenThrough (flat_map (λ row. ended (row_line row)) (take l.row-index l.rows)) l.initial.buffer l.buffer l.initial.out l.out
