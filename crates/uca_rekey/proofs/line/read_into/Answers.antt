-- No byte yet, and one more.
use Rattle.std.proofs.Common.{take, refl, arith}
use Rattle.uca_rekey.proofs.LineKeys.{byte_taken, none_read}
use Rattle.uca_rekey.proofs.line.read_into.Goals as goal

pub loop-count-init : goal.loop-count-init
loop-count-init c = none_read c.args.text.now (take 0 c.args.room.now) refl

pub loop-count-preserved : goal.loop-count-preserved
loop-count-preserved c = byte_taken c.args.text.now c.loop-count.room c.loop-count.count c.in-Some.byte (omega arith) (omega arith) c.in-Some.ensures c.loop-count.invariant
