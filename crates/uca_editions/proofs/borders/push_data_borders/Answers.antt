use Rattle.std.proofs.Common.{Result, Ok, Err, ℕ, Contains}
use Rattle.std.specs.Result.{OnOk}
use Rattle.uca_values.specs.declared.CodePointRange.{CodePointRange}
use Rattle.uca_editions.specs.inside.Borders.{AddsBorders, HasDataBorders}
use Rattle.uca_editions.proofs.BorderLists.{data_lists}
use Rattle.uca_editions.proofs.borders.push_data_borders.Goals as goal

-- what follows from what is true of an Ok
on_ok : {A E : Type 0} (P Q : Type 0) (result : Result A E) → (P → Q) → OnOk result P → OnOk result Q
on_ok P Q (Ok x) further holds = further holds
on_ok P Q (Err e) further holds = tt

pub returns-clause-kept : goal.returns-clause-kept
returns-clause-kept g c =
    on_ok (AddsBorders (λ (r : CodePointRange). r.first) (λ r. r.last) c.other.result.now c.push_ranges.new.list.items c.push_ranges-2.new.list.items)
    ((point : ℕ) → Contains c.args.list.now.items point → Contains c.push_ranges-2.new.list.items point) c.push_ranges-2.result
    (λ adds point h. adds.kept point (c.in_ok-push_ranges.ensures.kept point (c.in_ok-push_class_ranges.ensures.kept point h)))
    c.push_ranges-2.ensures

pub returns-clause-added : goal.returns-clause-added
returns-clause-added g c =
    on_ok (AddsBorders (λ (r : CodePointRange). r.first) (λ r. r.last) c.other.result.now c.push_ranges.new.list.items c.push_ranges-2.new.list.items)
    (HasDataBorders c.args.data.now c.push_ranges-2.new.list.items) c.push_ranges-2.result
    (λ adds. data_lists c.args.data.now _ _ c.other.result.now _ _ _ _ c.classes.ensures c.in_ok-push_class_ranges.ensures c.core.ensures c.in_ok-push_ranges.ensures
    c.other.ensures adds)
    c.push_ranges-2.ensures
