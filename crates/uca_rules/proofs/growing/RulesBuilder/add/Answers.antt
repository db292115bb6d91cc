use Rattle.std.proofs.Common.{◌≡◌, ◌↔◌, ◌++◌, ◌∷◌, [], List, ℕ, Contains, ap, subst, sym, ◌∙◌, inl, inr, ⊎_elim}
use Rattle.uca_relations.specs.declared.Relation.{Relation}
use Rattle.uca_relations.specs.Relations.{AreRules, IsHeld}
use Rattle.uca_rules.specs.inside.Growing.{held_texts, Admits}
use Rattle.uca_rules.proofs.HeldTexts.{held_more, rules_more}
use Rattle.uca_rules.proofs.growing.RulesBuilder.add.Goals as goal

pub returns-in_ok-push-in-Ok-clause-growing : goal.returns-in_ok-push-in-Ok-clause-growing
returns-in_ok-push-in-Ok-clause-growing g c =
    let rs : List Relation = c.args.self.now.relations.items in
    let r : Relation = c.args.relation in
    let admits : Admits r c.args.self.now c.admit.new.self = c.in-Ok.ensures.admitted in
    let own = admits.own in
    let is : c.push.new.self.items ≡ rs ++ r ∷ [] = c.in_ok-push-in-Ok.ensures.items ∙ ap (λ v. v.items ++ r ∷ []) own.same in
    let held : (text : List ℕ) → Contains (held_texts c.admit.new.self) text ↔ IsHeld (rs ++ r ∷ []) text =
    λ text. (
      (λ h. (held_more rs r text).1 (⊎_elim (λ before. inl ((c.requires.growing.are_held text).0 before)) (λ it. inr it) ((own.held text).0 h))),
      (λ h. (own.held text).1 (⊎_elim (λ before. inl ((c.requires.growing.are_held text).1 before)) (λ it. inr it) ((held_more rs r text).0 h))),
    ) in
    record {
      rules = subst AreRules (sym is) (rules_more rs r c.requires.growing.rules c.requires.few c.requires.texts admits.other (λ text h. admits.none_late text ((held text).1 h)));
      are_held = (λ text. subst (λ (l : List Relation). Contains (held_texts c.admit.new.self) text ↔ IsHeld l text) (sym is) (held text));
    }
