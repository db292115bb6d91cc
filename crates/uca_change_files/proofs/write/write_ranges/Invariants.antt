-- The lines of the ranges so far were written.
use Rattle.std.proofs.Common.{take}
use Rattle.uca_lines.specs.Buffered.{HasWrittenThrough}
use Rattle.uca_change_files.specs.Steps.{range_lines}
use Rattle.uca_change_files.proofs.write.write_ranges.Given as goal

abbrev pub invariant-loop-range : goal.invariant-loop-range
invariant-loop-range g l = HasWrittenThrough (range_lines (take l.range-index l.ranges)) l.initial.buffer l.buffer l.initial.out l.out
