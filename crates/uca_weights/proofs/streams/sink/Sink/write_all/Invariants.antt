-- `write_all` ends, since each turn writes some bytes, and what is written is in the writer.
use Rattle.std.proofs.Common.{◌≡◌, ◌-◌, length}
use Rattle.uca_weights.specs.Writes.{WentOut}
use Rattle.uca_weights.proofs.streams.sink.Sink.write_all.Given as goal

abbrev pub invariant-loop-written : goal.invariant-loop-written
invariant-loop-written g l =
    WentOut (g.W.Write.contents l.initial.self-inside.writer) (g.W.Write.contents l.self-inside.writer) l.text l.written
    × (l.self-inside.failed ≡ l.initial.self-inside.failed)

abbrev pub decreases-loop-written : goal.decreases-loop-written
decreases-loop-written g l = length l.text - l.written
