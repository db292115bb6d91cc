use Rattle.std.proofs.Common.{◌<◌, length, sym, ap, subst, ◌∙◌, arith}
use Rattle.std.specs.List as list
use Rattle.uca_plans.specs.ListLaws.{IsAmong}
use Rattle.uca_tailor.specs.inside.Slots.{IsSlotOf}
use Rattle.uca_tailor.proofs.NumberLemmas.SlotLaws.{inserted_before, inserted_after}
use Rattle.uca_tailor.proofs.numbers.lists.insert.Goals as goal
use Rattle.uca_tailor.proofs.numbers.lists.insert.Goals.{then-insertion, else-insertion}
use Rattle.uca_plans.proofs.GoodLists.{not_inserted}

pub overflow_add-slot : goal.overflow_add-slot
overflow_add-slot g c =
    let is : IsSlotOf c.args.insertion.anchor c.deref.result.now c.in-Some.anchor = c.in-Some.ensures.found in
    omega (arith, is.within, ap length c.deref.ensures.value)

pub insert-requires : goal.insert-requires
insert-requires g c =
    let is : IsSlotOf c.args.insertion.anchor c.deref.result.now c.in-Some.anchor = c.in-Some.ensures.found in
    let within : c.in-Some.anchor < length c.args.members.now.items = subst (λ ms. c.in-Some.anchor < length ms) c.deref.ensures.value is.within in
    elim c.if-insertion.branch [ then-insertion w ↦ omega arith | else-insertion w ↦ omega arith ]

pub returns-in_ok-insert : goal.returns-in_ok-insert
returns-in_ok-insert g c =
    let items = c.args.members.now.items in
    let i = c.args.insertion in
    let is : IsSlotOf i.anchor items c.in-Some.anchor = subst (λ ms. IsSlotOf i.anchor ms c.in-Some.anchor) c.deref.ensures.value c.in-Some.ensures.found in
    let put = c.in_ok-insert.ensures.items in
    elim c.if-insertion.branch [
      | then-insertion w ↦ put ∙ (ap (λ p. list.insert items p i.new) w.slot-is ∙ sym (inserted_before i items c.in-Some.anchor is w.if-insertion.true))
      | else-insertion w ↦ put ∙ (ap (λ p. list.insert items p i.new) w.slot-is ∙ sym (inserted_after i items c.in-Some.anchor is w.if-insertion.false))
    ]

pub returns-in_default : goal.returns-in_default
returns-in_default g c =
    let items = c.args.members.now.items in
    let i = c.args.insertion in
    let none : IsAmong items i.anchor → ⊥ = subst (λ ms. IsAmong ms i.anchor → ⊥) c.deref.ensures.value c.in_default.ensures.none in
    sym (not_inserted i items none)
