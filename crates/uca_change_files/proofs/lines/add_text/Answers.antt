use Rattle.std.proofs.Common.{◌≡◌, arith}
use Rattle.std.proofs.lemmas.Grind.{common_steps}
use Rattle.uca_change_files.specs.Changes.{OfText}
use Rattle.uca_change_files.specs.Steps.{SpellsText}
use Rattle.uca_change_files.proofs.LineLaws.{refuses_text, refuses_here}
use Rattle.uca_change_files.proofs.lines.add_text.Goals as goal

pub returns-in-Ok-Some-clause-fault : goal.returns-in-Ok-Some-clause-fault
returns-in-Ok-Some-clause-fault g c =
    let points = c.in-Ok-Some.points.items in
    let read = rw c.in-Ok-Some.field-0-is at c.in-Ok-Some.ensures in
    refuses_here (λ item. OfText points ≡ item) (SpellsText c.args.spelled.now) c.args.list.now c.push_text.result
    (λ kind h. refuses_text c.args.spelled.now points c.args.list.now kind read h) c.push_text.ensures.fault

pub returns-in-Ok-None-clause-fault : goal.returns-in-Ok-None-clause-fault
returns-in-Ok-None-clause-fault g c = grind (arith, common_steps)

pub returns-in-Ok-Some-clause-ok : goal.returns-in-Ok-Some-clause-ok
returns-in-Ok-Some-clause-ok g c = grind (arith, common_steps)
