use Rattle.std.proofs.Common.{refl}
use Rattle.uca_key_writer.proofs.BufferLemmas.{written}
use Rattle.uca_key_writer.proofs.level_buffers.LevelBuffers.write.Goals as goal

pub loop-element-init : goal.loop-element-init
loop-element-init g c = c.clear.ensures c.args.weighting

pub returns : goal.returns
returns g c =
    written g.I.Iterator.next_gives _ _ _ _ c.loop-element.yielded c.join.result _ _ _
    c.into_iter-element-iterator.ensures.into_iter_gives c.loop-element.yielded_by c.in-None.ensures.steps refl
    (c.join.ensures c.loop-element.yielded c.loop-element.invariant)
