use Rattle.std.proofs.Common.{◌+◌, ◌-◌, ◌++◌, length, take, arith}
use Rattle.uca_key_writer.proofs.BufferLemmas.{less_room, pushed_next, pushed_last}
use Rattle.uca_key_writer.proofs.slots.put_elements.Goals as goal

pub loop-element-preserved : goal.loop-element-preserved
loop-element-preserved c =
    let so_far = c.loop-element.invariant in
    let at = c.loop-element.element-index in
    let left = length c.args.elements.now - (at + 1) in
    record {
      some = c.put_element-counts.ensures.room left (less_room _ (left + 1) _ _ _ _ _ (omega arith) so_far.some);
      room = λ n room. c.put_element-counts.ensures.room (n + left) (less_room _ (n + left + 1) _ _ _ _ _ (omega arith) (so_far.room n room));
      holds = λ key es h.
          pushed_next c.args.weighting es c.args.elements.now at _ _ c.loop-element-test.true
          (c.put_element-counts.ensures.holds key (es ++ take at c.args.elements.now) (so_far.holds key es h));
    }

pub returns-clause-room : goal.returns-clause-room
returns-clause-room c = λ n room. less_room _ n _ _ _ _ _ (omega arith) (c.loop-element.invariant.room n room)

pub returns-clause-holds : goal.returns-clause-holds
returns-clause-holds c = λ key es h. pushed_last c.args.weighting es _ _ _ c.loop-element-test.false (c.loop-element.invariant.holds key es h)
