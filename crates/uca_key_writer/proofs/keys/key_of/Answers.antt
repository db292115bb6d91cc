use Rattle.uca_key_writer.proofs.BufferLemmas.{taken}
use Rattle.uca_key_writer.proofs.keys.key_of.Goals as goal

pub returns : goal.returns
returns g c = taken g.I.Iterator.next_gives c.args.elements _ c.into_key.result.items c.args.weighting c.into_key.ensures c.in_ok-write.ensures
