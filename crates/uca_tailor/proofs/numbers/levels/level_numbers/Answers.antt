use Rattle.std.proofs.Common.{◌≡◌, length, sym, subst, ap, ◌∙◌, arith}
use Rattle.std.specs.List.{AllByRecursion}
use Rattle.uca_check.specs.WellFormed.{elements_of}
use Rattle.uca_plans.specs.Lists as lists
use Rattle.uca_plans.specs.Lists.{IsNamedBelow}
use Rattle.uca_tailor.proofs.NumberLemmas.LevelLaws.{as_many_numbers, members_named}
use Rattle.uca_tailor.proofs.numbers.levels.level_numbers.Goals as goal

pub new-requires-clause-same : goal.new-requires-clause-same
new-requires-clause-same g c =
    let level = c.args.level in
    let members = c.in_ok-members.members in
    let numbers = c.in_ok-numbers.numbers in
    let are : numbers.items ≡ lists.level_numbers level members.items = c.in_ok-numbers.ensures ∙ ap (lists.level_numbers level) c.deref-2.ensures.value in
    let same : length (lists.level_numbers level members.items) ≡ length members.items =
    subst (λ ms. length (lists.level_numbers level ms) ≡ length ms) (sym c.in_ok-members.ensures)
    (as_many_numbers level (elements_of c.args.rows.now) c.args.insertions.now) in
    let both : length numbers.items ≡ length members.items = ap length are ∙ same in
    omega (arith, members.ok.0, numbers.ok.0)

pub new-requires-clause-names : goal.new-requires-clause-names
new-requires-clause-names g c =
    subst (AllByRecursion (IsNamedBelow c.args.relations)) (sym c.in_ok-members.ensures)
    (members_named c.args.relations c.args.level (elements_of c.args.rows.now) c.args.insertions.now c.requires)
