use Rattle.uca_weights.proofs.WriteLemmas.{WentOut-next}
use Rattle.uca_weights.proofs.streams.sink.Sink.write_all.Goals as goal

pub loop-written-preserved : goal.loop-written-preserved
loop-written-preserved g c =
    (WentOut-next _ _ _ _ _ _ c.loop-written.invariant.0 c.in-Ok.ensures.bound c.in-Ok.ensures.bytes, c.loop-written.invariant.1)
