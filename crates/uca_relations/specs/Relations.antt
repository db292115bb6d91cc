-- Relations, what is true of the relations of all rules, and the texts that rules leave as they are.
use Rattle.std.specs.Prelude.{◌≡◌, ◌≢◌, ◌⊎◌, ℕ, ◌≤◌, List, [], ◌∷◌, ◌++◌, length, IfSome, IsSomeAnd}
use Rattle.std.specs.List.{AllByRecursion}
use Rattle.uca_text.specs.Texts.{NfdText}
use Rattle.uca_text.specs.Limits.{IsNormal}
use Rattle.uca_text.specs.Occurring.{OccursInOrder}
use Rattle.uca_relations.specs.declared.Relation.{Relation}

-- ---- Which texts are targets, anchors and expansions. Texts are compared by their code points in Normalization Form D.

-- the text is the target of a relation
abbrev pub IsTarget : List Relation → List ℕ → Type 0
IsTarget [] text = ⊥
IsTarget (r ∷ relations) text = (r.target.points ≡ text) ⊎ IsTarget relations text

-- the text is the anchor or the expansion of the relation
abbrev pub IsUsedBy : Relation → List ℕ → Type 0
IsUsedBy r text = (text ≡ r.anchor.points) ⊎ IsSomeAnd r.expansion (λ expansion. text ≡ expansion.points)

-- Rules leave a text as it is: no target's code points all occur in it, in their order. Others may come between them.
abbrev pub IsUntouched : List Relation → List ℕ → Type 0
IsUntouched relations text = AllByRecursion (λ r. ¬ (OccursInOrder r.target.points text)) relations

-- ---- What is true of the relations of all rules

-- a text of a relation: it has 1 to 16 code points in Normalization Form D
pub record IsRuleText (text : NfdText) : Type 0 where
  pub normal : IsNormal text
  pub some : text.points ≢ []
  pub short : length text.points ≤ 16

pub record HasRuleTexts (r : Relation) : Type 0 where
  pub anchors : IsRuleText r.anchor
  pub targets : IsRuleText r.target
  pub expands : IfSome r.expansion IsRuleText

-- no two relations have the same target
abbrev pub AreDistinct : List Relation → Type 0
AreDistinct relations = (before after : List Relation) (r : Relation) → relations ≡ before ++ r ∷ after → ¬ (IsTarget before r.target.points)

-- No anchor or expansion of a relation contains in order the relation's own target or a later one. The exception is a
-- text that is itself the target of a relation before that one: it is then read as that target.
abbrev pub HaveNoLateTarget : List Relation → Type 0
HaveNoLateTarget relations = (before after : List Relation) (r : Relation) (text : List ℕ) → relations ≡ before ++ r ∷ after → IsUsedBy r text → ¬ (IsTarget before text) → IsUntouched (r ∷ after) text

pub record AreRules (relations : List Relation) : Type 0 where
  pub few : length relations ≤ 5000
  pub texts : AllByRecursion HasRuleTexts relations
  pub distinct : AreDistinct relations
  pub none_late : HaveNoLateTarget relations

-- ---- Why one more relation is rejected

-- a relation uses the text, which is not the target of a relation before it
pub record IsHeld (relations : List Relation) (text : List ℕ) : Type 0 where
  pub before : List Relation
  pub after : List Relation
  pub r : Relation
  pub parts : relations ≡ before ++ r ∷ after
  pub used : IsUsedBy r text
  pub free : ¬ (IsTarget before text)

-- The target of one more relation after others occurs in order in a text that one of them, or it itself, uses.
-- That text is not the target of a relation before that one.
pub record IsLate (relations : List Relation) (last : Relation) : Type 0 where
  pub text : List ℕ
  pub held : IsHeld (relations ++ last ∷ []) text
  pub occurs : OccursInOrder last.target.points text
