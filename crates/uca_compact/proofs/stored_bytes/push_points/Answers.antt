use Rattle.std.proofs.Common.{◌++◌, ap, sym, ◌∙◌}
use Rattle.std.proofs.lemmas.List.{map-id}
use Rattle.std.proofs.lemmas.Iterator.{YieldsList-from_chars}
use Rattle.std.proofs.lemmas.Iterator.Consumers.{YieldsList-end}
use Rattle.uca_order.specs.Depths.{points_bytes}
use Rattle.uca_compact.proofs.KeyBytes.{point_written}
use Rattle.uca_compact.proofs.stored_bytes.push_points.Goals as goal

pub loop-point-preserved : goal.loop-point-preserved
loop-point-preserved g c =
    point_written c.args.key.now.items c.loop-point.key.items c.extend_from_slice.new.self.items c.loop-point.yielded c.point_bytes.result c.in-Some.point
    c.loop-point.invariant c.point_bytes.ensures c.in_ok-extend_from_slice.ensures.items

pub returns : goal.returns
returns g c =
    let end = YieldsList-end (YieldsList-from_chars c.args.text.now c.utf8.text cc) c.loop-point.yielded _ c.loop-point.yielded_by _ _ c.in-None.is c.next.ensures.steps in
    c.loop-point.invariant ∙ ap (λ xs. c.args.key.now.items ++ points_bytes xs) (sym (map-id c.loop-point.yielded) ∙ end.0)
