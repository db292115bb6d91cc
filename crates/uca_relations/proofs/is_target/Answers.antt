use Rattle.std.proofs.Common.{◌≡◌, ℕ, List, bytes_eq, true, false, refl, sym, subst, ◌∙◌}
use Rattle.std.proofs.lemmas.Slice.Eq.{bytes_eq-Decides}
use Rattle.uca_relations.proofs.Searches.{target_here, target_further}
use Rattle.uca_relations.proofs.is_target.Goals as goal

pub returns-then-eq : goal.returns-then-eq
returns-then-eq c =
    let points : List ℕ = c.relation-item.result.target.points in
    let text : List ℕ = c.args.text.now in
    let same : c.chars.result.now ≡ text = (bytes_eq-Decides c.chars.result.now text).0 (sym (c.if-eq.ensures)) in (
      λ yes. target_here c.args.relations.now text c.loop-relation.relation-index c.relation-item.result c.loop-relation-test.true c.relation-item.is
          (subst (λ (p : List ℕ). p ≡ text) c.chars.ensures.value same) c.loop-relation.invariant,
      λ h. refl,
    )

pub loop-relation-preserved : goal.loop-relation-preserved
loop-relation-preserved c =
    let text : List ℕ = c.args.text.now in
    let other : c.relation-item.result.target.points ≡ text → ⊥ = λ e.
    let yes : bytes_eq c.chars.result.now text ≡ true = (bytes_eq-Decides c.chars.result.now text).1 (c.chars.ensures.value ∙ e) in
    let no : false ≡ true = c.if-eq.ensures ∙ yes in
    cc in
    target_further c.args.relations.now text c.loop-relation.relation-index c.relation-item.result c.loop-relation-test.true c.relation-item.is other c.loop-relation.invariant
