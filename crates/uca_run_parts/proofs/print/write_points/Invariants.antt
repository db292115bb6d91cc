use Rattle.std.proofs.Common.{take}
use Rattle.std.specs.List.{flat_map}
use Rattle.uca_lines.specs.Buffered.{HasWrittenThrough}
use Rattle.uca_run_parts.specs.Print.{spaced_point}
use Rattle.uca_run_parts.proofs.print.write_points.Given as goal

abbrev pub invariant-loop-point : goal.invariant-loop-point
invariant-loop-point g l = HasWrittenThrough (flat_map spaced_point (take l.point-index l.points)) l.initial.buffer l.buffer l.initial.out l.out
