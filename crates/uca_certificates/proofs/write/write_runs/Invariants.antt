-- The lines of the runs so far were written.
use Rattle.std.proofs.Common.{take}
use Rattle.uca_lines.specs.Buffered.{HasWrittenThrough}
use Rattle.uca_certificates.specs.inside.Steps.{level_text}
use Rattle.uca_certificates.proofs.write.write_runs.Given as goal

abbrev pub invariant-loop-run : goal.invariant-loop-run
invariant-loop-run g l = HasWrittenThrough (level_text l.level (take l.run-index l.runs)) l.initial.buffer l.buffer l.initial.out l.out
