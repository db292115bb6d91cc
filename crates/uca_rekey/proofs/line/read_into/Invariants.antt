-- The bytes so far were read.
use Rattle.std.proofs.Common.{◌*◌, take, drop}
use Rattle.uca_rekey.specs.inside.LinesInPlace.{ReadsBytes}
use Rattle.uca_rekey.proofs.line.read_into.Given as goal

abbrev pub invariant-loop-count : goal.invariant-loop-count
invariant-loop-count l = ReadsBytes l.text (take l.count l.room) (drop (2 * l.count) l.text)
