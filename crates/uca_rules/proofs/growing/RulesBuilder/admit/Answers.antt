use Rattle.std.proofs.Common.{◌≡◌, List, ℕ, Contains, subst, sym, refl, inl, inr, ⊎_elim, true, false}
use Rattle.uca_text.specs.Occurring.{OccursInOrder}
use Rattle.uca_relations.specs.declared.Relation.{Relation}
use Rattle.uca_relations.specs.Relations.{IsTarget}
use Rattle.uca_rules.specs.inside.Growing.{held_texts, HoldsOwn}
use Rattle.uca_rules.proofs.HeldTexts.{held_more}
use Rattle.uca_rules.proofs.growing.RulesBuilder.admit.Goals as goal

pub returns-then-occurs_in_one-clause-fault : goal.returns-then-occurs_in_one-clause-fault
returns-then-occurs_in_one-clause-fault g c =
    let rs : List Relation = c.args.self.now.relations.items in
    let r : Relation = c.args.relation.now in
    let own : HoldsOwn r c.args.self.now c.hold_own.new.self = c.in_ok-hold_own.ensures in
    let found : (text : List ℕ) × Contains (held_texts c.hold_own.new.self) text × OccursInOrder r.target.points text =
    subst (λ (p : List ℕ). (text : List ℕ) × Contains (held_texts c.hold_own.new.self) text × OccursInOrder p text) c.chars-target.ensures.value
    (subst (λ (l : List (List ℕ)). (text : List ℕ) × Contains l text × OccursInOrder c.chars-target.result.now text) c.deref-2.ensures.value (c.if-occurs_in_one.ensures.found refl)) in
    inr (record {
      text = found.0;
      held = (held_more rs r found.0).1 (⊎_elim (λ before. inl ((c.requires.growing.are_held found.0).0 before)) (λ it. inr it) ((own.held found.0).0 found.1));
      occurs = found.2;
    })

pub returns-clause-admitted : goal.returns-clause-admitted
returns-clause-admitted g c =
    let rs : List Relation = c.args.self.now.relations.items in
    let r : Relation = c.args.relation.now in
    let other : ¬ (IsTarget rs r.target.points) = λ h.
    let yes : false ≡ true = c.if-is_target.ensures.1
    (subst (λ (l : List Relation). IsTarget l c.chars-target.result.now) (sym c.deref.ensures.value) (subst (λ (p : List ℕ). IsTarget rs p) (sym c.chars-target.ensures.value) h)) in
    cc in
    record {
      own = c.in_ok-hold_own.ensures;
      other = other;
      none_late = (λ text h occurs. c.if-occurs_in_one.ensures.none refl text
          (subst (λ (l : List (List ℕ)). Contains l text) (sym c.deref-2.ensures.value) h) (subst (λ (p : List ℕ). OccursInOrder p text) (sym c.chars-target.ensures.value) occurs));
    }
