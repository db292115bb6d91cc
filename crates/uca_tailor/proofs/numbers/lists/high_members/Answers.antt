use Rattle.std.proofs.Common.{length, drop, sym, ap, ◌∙◌, ◌+◌, ◌-◌, arith}
use Rattle.std.proofs.lemmas.List.{take_all, length-drop}
use Rattle.uca_plans.specs.declared.drafts.DraftWeight.{DraftWeight}
use Rattle.uca_plans.specs.declared.drafts.DraftWeight.TheVariants.{Base}
use Rattle.uca_plans.specs.Lists.{after_weight}
use Rattle.uca_tailor.proofs.NumberLemmas.SlotLaws.{after_slot, none_after}
use Rattle.uca_tailor.proofs.numbers.lists.high_members.Goals as goal

pub returns-in-Some : goal.returns-in-Some
returns-in-Some c =
    let members = c.args.members.now in
    let rest = drop {A = DraftWeight} (c.in-Some.slot + 1) members in
    take_all (length members - (c.in-Some.slot + 1)) rest (omega (arith, length-drop (c.in-Some.slot + 1) members))
    ∙ (after_slot (Base c.fixed_weight.result) members c.in-Some.slot c.in-Some.ensures.found
    ∙ ap (λ w. after_weight (Base w) members) c.fixed_weight.ensures)

pub returns-in-None : goal.returns-in-None
returns-in-None c =
    let members = c.args.members.now in
    sym (none_after (Base c.fixed_weight.result) members c.in-None.ensures.none) ∙ ap (λ w. after_weight (Base w) members) c.fixed_weight.ensures
