use Rattle.std.proofs.Common.{sym, subst, ◌∙◌}
use Rattle.std.proofs.lemmas.List.{with_items_is}
use Rattle.uca_editions.specs.inside.Index.{AreMarked}
use Rattle.uca_editions.proofs.index.ChangeIndex.new.Goals as goal

pub invariant_of-result : goal.invariant_of-result
invariant_of-result g c =
    subst (AreMarked c.args.list) (sym (with_items_is c.in_ok-marks.marks c.mark_changes.new.words (c.mark_changes.auto.words ∙ c.deref_mut.ensures.len)))
    c.mark_changes.ensures
