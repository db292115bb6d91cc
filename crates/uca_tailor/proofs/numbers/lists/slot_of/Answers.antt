use Rattle.std.proofs.Common.{◌≡◌, rules, tests}
use Rattle.std.proofs.lemmas.Iterator.{IsFirst-from_position, YieldsList-from_slice}
use Rattle.uca_tailor.proofs.NumberLemmas.SlotLaws.{FindsFirst, slot_found, no_slot_found}
use Rattle.uca_tailor.proofs.numbers.lists.slot_of.Goals as goal

pub returns-clause-found : goal.returns-clause-found
returns-clause-found c =
    let finds : FindsFirst c.args.weight c.args.members.now c.position.result =
    IsFirst-from_position _ _ _ (λ m. m ≡ c.args.weight) (λ m. m ≡ c.args.weight → ⊥) c.position.ensures.ran (YieldsList-from_slice c.args.members.now cc)
    (λ x q k. search (rules, tests)) (λ x q k. search (rules, tests)) in
    slot_found c.args.weight c.args.members.now _ finds

pub returns-clause-none : goal.returns-clause-none
returns-clause-none c =
    let finds : FindsFirst c.args.weight c.args.members.now c.position.result =
    IsFirst-from_position _ _ _ (λ m. m ≡ c.args.weight) (λ m. m ≡ c.args.weight → ⊥) c.position.ensures.ran (YieldsList-from_slice c.args.members.now cc)
    (λ x q k. search (rules, tests)) (λ x q k. search (rules, tests)) in
    no_slot_found c.args.weight c.args.members.now _ finds
