use Rattle.std.specs.Prelude.{IsTrue}
use Rattle.std.proofs.Common.{List, ℕ, subst, ◌∙◌, arith}
use Rattle.std.proofs.lemmas.Grind.{common_steps}
use Rattle.uca_change_files.specs.Changes.{IsBelow}
use Rattle.uca_change_files.proofs.Orders.{last_decides}
use Rattle.uca_change_files.proofs.list.is_above.Goals as goal

pub returns-in-Some : goal.returns-in-Some
returns-in-Some g c =
    let last = c.in-Some.last.now in
    let same = c.deref.ensures.value ∙ c.last-in-Some.view_is in
    let d = last_decides IsBelow c.args.texts.now last c.args.text.now c.in-Some.ensures.value in
    let b = subst (λ (t : List ℕ). (IsTrue c.is_below.result → IsBelow t c.args.text.now) × (IsBelow t c.args.text.now → IsTrue c.is_below.result)) same c.is_below.ensures in
    (λ t. d.0 (b.0 t), λ h. b.1 (d.1 h))

pub returns-in-None : goal.returns-in-None
returns-in-None g c = grind (arith, common_steps)
