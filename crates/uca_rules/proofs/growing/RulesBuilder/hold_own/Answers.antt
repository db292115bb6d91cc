use Rattle.std.proofs.Common.{◌≡◌, ◌↔◌, ◌⊎◌, List, ℕ, Contains, ap, subst, ◌∙◌}
use Rattle.uca_relations.specs.declared.Relation.{Relation}
use Rattle.uca_relations.specs.Relations.{IsTarget}
use Rattle.uca_rules.specs.inside.Growing.{held_texts, Holds}
use Rattle.uca_rules.proofs.HeldTexts.{both_held, anchor_held}
use Rattle.uca_rules.proofs.growing.RulesBuilder.hold_own.Goals as goal

pub returns-in_ok-hold-2 : goal.returns-in_ok-hold-2
returns-in_ok-hold-2 g c =
    let r : Relation = c.args.relation.now in
    let target : List ℕ → Type 0 = λ t. IsTarget c.args.self.now.relations.items t in
    let first : Holds r.anchor.points c.args.self.now c.hold.new.self = subst (λ (p : List ℕ). Holds p c.args.self.now c.hold.new.self) c.chars.ensures.value c.in_ok-hold.ensures in
    let second : Holds c.in-Some.expansion.points c.hold.new.self c.hold-in-Some.new.self =
    subst (λ (p : List ℕ). Holds p c.hold.new.self c.hold-in-Some.new.self) c.chars-in-Some.ensures.value c.in_ok-hold-2.ensures in
    record {
      same = second.same ∙ first.same;
      held = both_held target (held_texts c.args.self.now) (held_texts c.hold.new.self) (held_texts c.hold-in-Some.new.self) r c.in-Some.expansion c.in-Some.is first.held
          (λ t. subst (λ (l : List Relation). Contains (held_texts c.hold-in-Some.new.self) t ↔ (Contains (held_texts c.hold.new.self) t ⊎ ((t ≡ c.in-Some.expansion.points) × ¬ (IsTarget l c.in-Some.expansion.points))))
          (ap (λ v. v.items) first.same) (second.held t));
    }

pub returns-in_default : goal.returns-in_default
returns-in_default g c =
    let r : Relation = c.args.relation.now in
    let target : List ℕ → Type 0 = λ t. IsTarget c.args.self.now.relations.items t in
    let first : Holds r.anchor.points c.args.self.now c.hold.new.self = subst (λ (p : List ℕ). Holds p c.args.self.now c.hold.new.self) c.chars.ensures.value c.in_ok-hold.ensures in
    record {
      same = first.same;
      held = anchor_held target (held_texts c.args.self.now) (held_texts c.hold.new.self) r c.in_default.is first.held;
    }
