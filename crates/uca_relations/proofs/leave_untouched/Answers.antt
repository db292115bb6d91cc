use Rattle.std.proofs.Common.{ℕ, List, subst, sym, true, false, ◌≡◌}
use Rattle.uca_text.specs.Occurring.{OccursInOrder}
use Rattle.uca_relations.proofs.Searches.{untouched_further}
use Rattle.uca_relations.proofs.leave_untouched.Goals as goal

pub loop-relation-preserved : goal.loop-relation-preserved
loop-relation-preserved c =
    let text : List ℕ = c.args.text.now in
    let none : OccursInOrder c.relation-item.result.target.points text → ⊥ = λ h.
    let no : false ≡ true = c.if-occurs_in_order.ensures.1 (subst (λ (p : List ℕ). OccursInOrder p text) (sym c.chars.ensures.value) h) in
    cc in
    untouched_further c.args.relations.now text c.loop-relation.relation-index c.relation-item.result c.loop-relation-test.true c.relation-item.is none c.loop-relation.invariant
