-- The lines of the starts so far were written.
use Rattle.std.proofs.Common.{take}
use Rattle.uca_lines.specs.Buffered.{HasWrittenThrough}
use Rattle.uca_books.specs.inside.Steps.{starts_text}
use Rattle.uca_books.proofs.write.write_starts.Given as goal

abbrev pub invariant-loop-start : goal.invariant-loop-start
invariant-loop-start g l = HasWrittenThrough (starts_text l.level (take l.start-index l.starts)) l.initial.buffer l.buffer l.initial.out l.out
