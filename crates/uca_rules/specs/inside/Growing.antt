-- Rules that grow by one relation after the other.
use Rattle.std.specs.Prelude.{◌≡◌, ◌↔◌, ◌⊎◌, ℕ, List, Contains}
use Rattle.uca_text.specs.Occurring.{OccursInOrder}
use Rattle.uca_relations.specs.declared.Relation.{Relation}
use Rattle.uca_relations.specs.Relations.{AreRules, IsTarget, IsUsedBy, IsHeld}
use Rattle.uca_rules.specs.declared.growing.RulesBuilder.{RulesBuilder}

-- the texts that are kept
abbrev pub held_texts : {A : Type 0} → RulesBuilder A → List (List ℕ)
held_texts g = g.held.items

-- the relations are rules, and the texts that are kept are those in which no later target may occur
pub record AreGrowing {A : Type 0} (g : RulesBuilder A) : Type 0 where
  pub rules : AreRules g.relations.items
  pub are_held : (text : List ℕ) → Contains (held_texts g) text ↔ IsHeld g.relations.items text

-- one more text is kept, unless it is a target
pub record Holds {A : Type 0} (text : List ℕ) (old new : RulesBuilder A) : Type 0 where
  pub same : new.relations ≡ old.relations
  pub held : (t : List ℕ) → Contains (held_texts new) t ↔ (Contains (held_texts old) t ⊎ ((t ≡ text) × ¬ (IsTarget old.relations.items text)))

-- the texts of a relation are kept, except those that are a target
pub record HoldsOwn {A : Type 0} (r : Relation) (old new : RulesBuilder A) : Type 0 where
  pub same : new.relations ≡ old.relations
  pub held : (t : List ℕ) → Contains (held_texts new) t ↔ (Contains (held_texts old) t ⊎ (IsUsedBy r t × ¬ (IsTarget old.relations.items t)))

-- the relation may be added: its texts are kept, and its target is new and occurs in order in no text that is kept
pub record Admits {A : Type 0} (r : Relation) (old new : RulesBuilder A) : Type 0 where
  pub own : HoldsOwn r old new
  pub other : ¬ (IsTarget old.relations.items r.target.points)
  pub none_late : (text : List ℕ) → Contains (held_texts new) text → ¬ (OccursInOrder r.target.points text)
