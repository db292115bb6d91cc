-- What was written and the rest are the text.
use Rattle.std.proofs.Common.{◌≡◌, ◌+◌, length}
use Rattle.test_files.proofs.outputs.write_in_pieces.Given as goal

abbrev pub invariant-loop-rest : goal.invariant-loop-rest
invariant-loop-rest l = l.buffer.written + length l.buffer.held + length l.rest ≡ length l.text

abbrev pub decreases-loop-rest : goal.decreases-loop-rest
decreases-loop-rest l = length l.rest
