use Rattle.std.proofs.Common.{List, length, ◌+◌, ◌<◌, refl, rules, subst, arith}
use Rattle.std.proofs.lemmas.Grind.{common_steps}
use Rattle.uca_values.specs.declared.CodePointRange.{CodePointRange}
use Rattle.uca_change_files.specs.Changes.{ChangeContent, OfRange, IsRange, IsBefore, MayCome}
use Rattle.uca_change_files.proofs.Orders.{list_more}
use Rattle.uca_change_files.proofs.list.ChangeList.push_range.Goals.{in-Ok, in-Err}
use Rattle.uca_change_files.proofs.list.ChangeList.push_range.Goals as goal

pub invariant_of-self : goal.invariant_of-self
invariant_of-self g c = elim c.match-push.branch [
  | in-Ok w ↦
      let old : ChangeContent = record { texts = c.self.inside.texts.items; ranges = c.self.inside.ranges.items } in
      let fits : IsRange c.args.range = search rules in
      let due = subst (λ (rs : List CodePointRange). MayCome IsBefore rs c.args.range) c.deref.ensures.value (c.if-not-is_after.ensures.0 refl) in
      let few : length old.texts + length old.ranges < 999999 = search rules in
      rw w.in-Ok.ensures.items (list_more old (OfRange c.args.range) c.self.invariant fits due few)
  | in-Err w ↦ rw w.in-Err.ensures.items c.self.invariant
]

pub overflow_add-len : goal.overflow_add-len
overflow_add-len g c = grind (arith, common_steps)

pub returns-then-range-clause-fault : goal.returns-then-range-clause-fault
returns-then-range-clause-fault g c = grind (arith, common_steps)

pub returns-then-not-is_after-clause-fault : goal.returns-then-not-is_after-clause-fault
returns-then-not-is_after-clause-fault g c = grind (arith, common_steps)

pub returns-then-len-ge-MOST_ITEMS-clause-fault : goal.returns-then-len-ge-MOST_ITEMS-clause-fault
returns-then-len-ge-MOST_ITEMS-clause-fault g c = grind (arith, common_steps)

pub returns-after-push-clause-ok : goal.returns-after-push-clause-ok
returns-after-push-clause-ok g c = grind (arith, common_steps)

pub returns-after-push-clause-fault : goal.returns-after-push-clause-fault
returns-after-push-clause-fault g c = grind (arith, common_steps)

pub returns-after-push-clause-same : goal.returns-after-push-clause-same
returns-after-push-clause-same g c = grind (arith, common_steps)
