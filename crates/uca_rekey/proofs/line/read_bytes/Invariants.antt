-- The bytes so far were read.
use Rattle.std.proofs.Common.{length}
use Rattle.uca_rekey.specs.inside.LinesInPlace.{ReadsBytes}
use Rattle.uca_rekey.proofs.line.read_bytes.Given as goal

abbrev pub invariant-loop-rest : goal.invariant-loop-rest
invariant-loop-rest g l = ReadsBytes l.text l.key.items l.rest

abbrev pub decreases-loop-rest : goal.decreases-loop-rest
decreases-loop-rest g l = length l.rest
