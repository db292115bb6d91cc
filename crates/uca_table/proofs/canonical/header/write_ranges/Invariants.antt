use Rattle.std.proofs.Common.{take}
use Rattle.std.specs.List.{flat_map}
use Rattle.uca_lines.specs.Lines.{ended}
use Rattle.uca_table.specs.Canonical.{range_line}
use Rattle.uca_lines.specs.Buffered.{HasWrittenThrough}
use Rattle.uca_table.proofs.canonical.header.write_ranges.Given as goal

abbrev pub invariant-loop-range : goal.invariant-loop-range
invariant-loop-range g l = HasWrittenThrough (flat_map (λ r. ended (range_line r)) (take l.range-index l.ranges)) l.initial.buffer l.buffer l.initial.out l.out
