use Rattle.std.proofs.Common.{sym, ap, ◌∙◌}
use Rattle.uca_plans.specs.declared.drafts.DraftWeight.TheVariants.{Base}
use Rattle.uca_plans.specs.Lists.{before_weight}
use Rattle.uca_tailor.proofs.NumberLemmas.SlotLaws.{before_slot, all_before}
use Rattle.uca_tailor.proofs.numbers.lists.low_members.Goals as goal

pub returns-in-Some : goal.returns-in-Some
returns-in-Some c =
    let members = c.args.members.now in
    before_slot (Base c.fixed_weight.result) members c.in-Some.slot c.in-Some.ensures.found ∙ ap (λ w. before_weight (Base w) members) c.fixed_weight.ensures

pub returns-in-None : goal.returns-in-None
returns-in-None c =
    let members = c.args.members.now in
    sym (all_before (Base c.fixed_weight.result) members c.in-None.ensures.none) ∙ ap (λ w. before_weight (Base w) members) c.fixed_weight.ensures
