use Rattle.std.proofs.Common.{◌≡◌, ◌++◌, ◌∷◌, [], ◌↔◌, ◌⊎◌, List, ℕ, Contains, ap, subst, sym, refl, ◌∙◌, true, false, rules}
use Rattle.uca_relations.specs.declared.Relation.{Relation}
use Rattle.uca_relations.specs.Relations.{IsTarget}
use Rattle.uca_rules.specs.inside.Growing.{held_texts}
use Rattle.uca_rules.proofs.HeldTexts.{holds_one}
use Rattle.uca_rules.proofs.growing.RulesBuilder.hold.Goals as goal

pub returns-in_ok-push : goal.returns-in_ok-push
returns-in_ok-push g c =
    let old : List (List ℕ) = held_texts c.args.self.now in
    let text : List ℕ = c.args.text.now in
    let other : ¬ (IsTarget c.args.self.now.relations.items text) = λ h.
    let no : false ≡ true = c.if-not-is_target.ensures.1 (subst (λ (l : List Relation). IsTarget l text) (sym c.deref.ensures.value) h) in
    cc in
    let is : held_texts (record { alloc = c.args.self.now.alloc; relations = c.args.self.now.relations; held = c.push.new.self }) ≡ old ++ text ∷ [] =
    c.in_ok-push.ensures.items ∙ ap (λ (t : List ℕ). old ++ t ∷ []) c.in_ok-text.ensures.items in
    record {
      same = refl;
      held = (λ t. subst (λ (l : List (List ℕ)). Contains l t ↔ (Contains old t ⊎ ((t ≡ text) × ¬ (IsTarget c.args.self.now.relations.items text)))) (sym is)
          (holds_one old text (¬ (IsTarget c.args.self.now.relations.items text)) other t));
    }

pub returns-else-not-is_target : goal.returns-else-not-is_target
returns-else-not-is_target g c = search rules
