use Rattle.std.proofs.Common.{◌++◌, ap, sym, subst, ◌∙◌, arith}
use Rattle.std.proofs.lemmas.List.{with_items_is}
use Rattle.std.specs.Bool.{OnTrue}
use Rattle.uca_plain.specs.Leaves.{points_elements}
use Rattle.uca_key_writer.specs.inside.LevelBuffers.{HoldsLevels, held}
use Rattle.uca_key_writer.proofs.BufferLemmas.{same_levels}
use Rattle.uca_key_writer.proofs.level_buffers.LevelBuffers.push_leaves_by.Goals as goal

pub returns : goal.returns
returns g c = λ collation es entries h.
    let counts = c.self.inside.counts in
    let key = c.self.inside.key.items in
    let same = sym (c.make_rooms.ensures.same c.self.inside.after_variable key)
    ∙ same_levels c.self.inside.after_variable counts _ _ _ _ _ _ _ _ key (ap (λ l. held l counts.primary) c.as_mut_slice.ensures.value)
    (ap (λ l. held l counts.secondary) c.as_mut_slice-2.ensures.value) (ap (λ l. held l counts.tertiary) c.as_mut_slice-3.ensures.value)
    (ap (λ l. held l counts.quaternary) c.as_mut_slice-4.ensures.value) in
    let new = c.put_leaves-all.new in
    let made = c.put_leaves-all.result.1 in
    let kept = same_levels new.after_variable made _ _ _ _ _ _ _ _ key
    (ap (λ l. held l made.primary) (with_items_is c.make_rooms.new.primary new.primary (omega (arith, c.as_mut_slice.ensures.len))))
    (ap (λ l. held l made.secondary) (with_items_is c.make_rooms.new.secondary new.secondary (omega (arith, c.as_mut_slice-2.ensures.len))))
    (ap (λ l. held l made.tertiary) (with_items_is c.make_rooms.new.tertiary new.tertiary (omega (arith, c.as_mut_slice-3.ensures.len))))
    (ap (λ l. held l made.quaternary) (with_items_is c.make_rooms.new.quaternary new.quaternary (omega (arith, c.as_mut_slice-4.ensures.len)))) in
    subst (λ b. OnTrue c.put_leaves-all.result.0 (HoldsLevels c.args.weighting (es ++ points_elements collation c.args.text.now) b)) kept
    (c.put_leaves-all.ensures.holds collation key es entries
    (subst (HoldsLevels c.args.weighting es) (sym c.self.view_is ∙ same) h))
