-- The bytes so far begin the key.
use Rattle.std.proofs.Common.{length}
use Rattle.uca_rekey.specs.inside.LinesInPlace.{ReadsBytes}
use Rattle.uca_rekey.proofs.line.read_key.Given as goal

abbrev pub invariant-loop-byte : goal.invariant-loop-byte
invariant-loop-byte g l = ReadsBytes l.line l.key.items l.text

abbrev pub decreases-loop-byte : goal.decreases-loop-byte
decreases-loop-byte g l = length l.text
