use Rattle.std.proofs.Common.{◌+◌, ◌++◌, length, ap, sym, subst, ◌∙◌, arith}
use Rattle.std.proofs.lemmas.List.{with_items_is}
use Rattle.uca_key_writer.specs.inside.LevelBuffers.{HoldsLevels, held}
use Rattle.uca_plain.proofs.Results.{no_result}
use Rattle.uca_key_writer.proofs.BufferLemmas.{less_room, room_in, same_levels}
use Rattle.uca_key_writer.proofs.level_buffers.LevelBuffers.push_all_by.Goals as goal

pub returns : goal.returns
returns g c = λ es h.
    let counts = c.self.inside.counts in
    let key = c.self.inside.key.items in
    let same = sym (c.make_rooms.ensures.same c.self.inside.after_variable key)
    ∙ same_levels c.self.inside.after_variable counts _ _ _ _ _ _ _ _ key (ap (λ l. held l counts.primary) c.as_mut_slice.ensures.value)
    (ap (λ l. held l counts.secondary) c.as_mut_slice-2.ensures.value) (ap (λ l. held l counts.tertiary) c.as_mut_slice-3.ensures.value)
    (ap (λ l. held l counts.quaternary) c.as_mut_slice-4.ensures.value) in
    let new = c.put_elements-self-inside.new in
    let made = c.put_elements-self-inside.result in
    let kept = same_levels new.after_variable made _ _ _ _ _ _ _ _ key
    (ap (λ l. held l made.primary) (with_items_is c.make_rooms.new.primary new.primary (omega (arith, c.as_mut_slice.ensures.len))))
    (ap (λ l. held l made.secondary) (with_items_is c.make_rooms.new.secondary new.secondary (omega (arith, c.as_mut_slice-2.ensures.len))))
    (ap (λ l. held l made.tertiary) (with_items_is c.make_rooms.new.tertiary new.tertiary (omega (arith, c.as_mut_slice-3.ensures.len))))
    (ap (λ l. held l made.quaternary) (with_items_is c.make_rooms.new.quaternary new.quaternary (omega (arith, c.as_mut_slice-4.ensures.len)))) in
    subst (HoldsLevels c.args.weighting (es ++ c.args.elements.now)) kept
    (c.put_elements-self-inside.ensures.holds key es
    (subst (HoldsLevels c.args.weighting es) (sym c.self.view_is ∙ same) h))

pub returns-in_err-make_rooms : goal.returns-in_err-make_rooms
returns-in_err-make_rooms g c = λ es h. no_result c.from_residual.result _ c.from_residual.ensures.0

pub put_elements-self-inside-requires : goal.put_elements-self-inside-requires
put_elements-self-inside-requires g c =
    room_in _ c.self.inside.counts _ _ _ _ _ _ _ _ c.as_mut_slice.ensures.value c.as_mut_slice-2.ensures.value c.as_mut_slice-3.ensures.value
    c.as_mut_slice-4.ensures.value c.in_ok-make_rooms.ensures.room

pub invariant_of-self-2 : goal.invariant_of-self-2
invariant_of-self-2 g c =
    let new = c.put_elements-self-inside.new in
    room_in 0 c.put_elements-self-inside.result new.primary new.secondary new.tertiary new.quaternary _ _ _ _
    (with_items_is c.make_rooms.new.primary new.primary (omega (arith, c.as_mut_slice.ensures.len)))
    (with_items_is c.make_rooms.new.secondary new.secondary (omega (arith, c.as_mut_slice-2.ensures.len)))
    (with_items_is c.make_rooms.new.tertiary new.tertiary (omega (arith, c.as_mut_slice-3.ensures.len)))
    (with_items_is c.make_rooms.new.quaternary new.quaternary (omega (arith, c.as_mut_slice-4.ensures.len)))
    (c.put_elements-self-inside.ensures.room 0 (less_room (length c.args.elements.now) (0 + length c.args.elements.now) _ _ _ _ _ (omega arith)
    (room_in _ c.self.inside.counts _ _ _ _ _ _ _ _ c.as_mut_slice.ensures.value c.as_mut_slice-2.ensures.value c.as_mut_slice-3.ensures.value
    c.as_mut_slice-4.ensures.value c.in_ok-make_rooms.ensures.room)))
