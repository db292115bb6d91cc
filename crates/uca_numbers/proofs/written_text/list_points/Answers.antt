-- All code points of the text are in the list.
use Rattle.std.proofs.Common.{sym, ◌∙◌}
use Rattle.std.proofs.lemmas.List.{map-id}
use Rattle.std.proofs.lemmas.Iterator.{YieldsList-from_chars}
use Rattle.std.proofs.lemmas.Iterator.Consumers.{YieldsList-end}
use Rattle.uca_numbers.proofs.written_text.list_points.Goals as goal

pub returns : goal.returns
returns c =
    let end = YieldsList-end (YieldsList-from_chars c.args.text.now c.utf8.text cc) c.loop-point.yielded _ c.loop-point.yielded_by _ _ c.in-None.is c.next.ensures.steps in
    c.loop-point.invariant ∙ sym (map-id c.loop-point.yielded) ∙ end.0
