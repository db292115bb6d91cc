use Rattle.std.proofs.Common.{ap, ◌∙◌}
use Rattle.std.proofs.lemmas.Result.{on_ok_weaker}
use Rattle.uca_values.specs.Content.{HeaderContent}
use Rattle.uca_editions.proofs.BorderLists.{pair_lists}
use Rattle.uca_editions.proofs.borders.push_pair_borders.Goals as goal

pub returns : goal.returns
returns g c =
    on_ok_weaker c.push_ranges.result (λ adds.
    pair_lists c.args.old.now.ranges c.args.new.now.ranges _ _ c.args.changes.now.ranges _ _ _ _ _ c.requires
    (c.deref.ensures.value ∙ ap (λ (h : HeaderContent). h.ranges) c.old.view_is) c.in_ok-push_implicit_borders.ensures
    (c.deref-2.ensures.value ∙ ap (λ (h : HeaderContent). h.ranges) c.new.view_is) c.in_ok-push_implicit_borders-2.ensures
    c.ranges-2.ensures.value adds) c.push_ranges.ensures
