use Rattle.std.proofs.Common.{◌∙◌, arith}
use Rattle.std.proofs.lemmas.List.{length-set}
use Rattle.uca_order.proofs.KeyLength.{shown}
use Rattle.uca_plain.proofs.PlainEntries.{element_kept}
use Rattle.uca_plain.proofs.plain.first_elements.Goals as goal

pub returns-then-from-ge-ROOM-clause-elements : goal.returns-then-from-ge-ROOM-clause-elements
returns-then-from-ge-ROOM-clause-elements g c = λ few. absurd (omega arith)

pub loop-element-preserved : goal.loop-element-preserved
loop-element-preserved g c =
    let so_far = c.loop-element.invariant in
    record {
      point = so_far.point;
      len = so_far.len;
      starts = so_far.starts;
      few = omega arith;
      room = length-set c.loop-element.known.elements c.from-in-loop-element.result c.in-Some.element ∙ so_far.room;
      elements = element_kept c.loop-element.known.elements c.loop-element.yielded c.loop-element.known.count _ _
          c.from-in-loop-element.ensures (omega arith) so_far.elements;
    }

pub returns : goal.returns
returns g c = record {
  point = c.loop-element.invariant.point;
  len = c.loop-element.invariant.len;
  starts = c.loop-element.invariant.starts;
  elements = λ few.
      c.loop-element.invariant.elements ∙ shown _ c.loop-element.yielded _ _ c.loop-element.yielded_by c.in-None.ensures.steps
      ∙ c.into_iter-element-iterator.ensures.into_iter_gives ∙ c.elements-element-items.ensures;
}
