use Rattle.std.proofs.Common.{take}
use Rattle.std.specs.List.{flat_map}
use Rattle.uca_table.specs.Canonical.{key_point_text}
use Rattle.uca_lines.specs.Buffered.{HasWrittenThrough}
use Rattle.uca_table.proofs.canonical.rows.write_key.Given as goal

abbrev pub invariant-loop-point : goal.invariant-loop-point
invariant-loop-point g l = HasWrittenThrough (flat_map key_point_text (take l.point-index l.key)) l.initial.buffer l.buffer l.initial.out l.out
