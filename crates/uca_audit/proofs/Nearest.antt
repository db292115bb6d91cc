-- Condition 11, that new weights are nearest: which weights are known so far, and what the pass over all placements finds.
use Rattle.std.proofs.Common.{◌≡◌, ◌⊎◌, inl, inr, ⊎_elim, ◌↔◌, ℕ, suc, ◌<◌, Bool, true, false, length, take, drop, get_or, ◌∙◌, List, [], ◌∷◌, ◌++◌}
use Rattle.std.proofs.Common.{Option, Some, None, MatchOption, IsTrue, refl, sym, subst}
use Rattle.std.specs.Prelude.{⊤}
use Rattle.std.specs.List.{AllZip}
use Rattle.std.proofs.lemmas.Bool.{false≢true}
use Rattle.uca_weights.specs.declared.Level.{Level}
use Rattle.uca_relations.specs.declared.Relation.{Relation}
use Rattle.uca_tailorings.specs.Tailorings.{Tailoring, IsPlacedAt, IsNewWeight, IsNearest}
use Rattle.uca_tailorings.proofs.Relating.{one_new}
use Rattle.uca_tailorings.proofs.Nearest.{new_cases}
use Rattle.uca_audit.specs.declared.conditions.placements.Placement.{Placement}
use Rattle.uca_audit.specs.Refusals.{IsFirstRelationWithout}
use Rattle.uca_audit.specs.inside.Views.{IsPlacement}
use Rattle.uca_audit.specs.inside.WeightSets.{Flags, HasWeight, HasBetween}
use Rattle.uca_audit.specs.inside.NewWeights.{puts, HoldsKnownAndNew, IsNearestPlacement}
use Rattle.uca_audit.proofs.Passes.{in_step, AllBelow, below_one_more, first_here}
use Rattle.uca_tailorings.proofs.Relating.{one_old}
use Rattle.uca_audit.proofs.PlacedWeights.{placed_there, puts_there, puts_new}

-- a new weight stays one with one more relation
new_earlier : (tailoring : Tailoring) (level : Level) (w : ℕ) (before : List Relation) (r : Relation) → IsNewWeight tailoring level w before →
    IsNewWeight tailoring level w (before ++ r ∷ [])
new_earlier tailoring level w [] r none = absurd none
new_earlier tailoring level w (q ∷ before) r new = ⊎_elim (λ here. inl here) (λ later. inr (new_earlier tailoring level w before r later)) new

-- that relation's own one
new_last : (tailoring : Tailoring) (level : Level) (w : ℕ) (before : List Relation) (r : Relation) → (old : ℕ) × IsPlacedAt tailoring r level old w →
    IsNewWeight tailoring level w (before ++ r ∷ [])
new_last tailoring level w [] r own = inl own
new_last tailoring level w (q ∷ before) r own = inr (new_last tailoring level w before r own)

-- the set with the new weight of one more relation
pub known_more : (tailoring : Tailoring) (before : List Relation) (r : Relation) (p : Placement) (old new : Flags) →
    HoldsKnownAndNew tailoring before old → IsPlacement tailoring r p →
    ((level : Level) (w : ℕ) → HasWeight new level w ↔ (IsTrue (puts level w p) ⊎ HasWeight old level w)) →
    HoldsKnownAndNew tailoring (before ++ r ∷ []) new
known_more tailoring before r p old new holds is adds level w = (
  (λ has. ⊎_elim
      (λ put. inr (new_last tailoring level w before r ((puts_new tailoring r p is level w).0 put)))
      (λ had. ⊎_elim (λ known. inl known) (λ earlier. inr (new_earlier tailoring level w before r earlier)) ((holds level w).0 had))
      ((adds level w).0 has)),
  λ is_one. (adds level w).1 (⊎_elim
      (λ known. inr ((holds level w).1 (inl known)))
      (λ own. ⊎_elim
      (λ earlier. inr ((holds level w).1 (inr earlier)))
      (λ last. inl (⊎_elim (λ here. (puts_new tailoring r p is level w).1 here) (λ none. absurd none) last))
      (new_cases tailoring level w before r [] own))
      is_one),
)

-- where a placement passes the test its relation is nearest
pub nearest_placement : (tailoring : Tailoring) (set : Flags) (before : List Relation) (r : Relation) (after : List Relation) (p : Placement) →
    HoldsKnownAndNew tailoring before set → IsPlacement tailoring r p → IsNearestPlacement set p → IsNearest tailoring before r after
nearest_placement tailoring set before r after p holds is nearest level old new at =
    let there = placed_there tailoring r p level old new is at in
    let here : ¬ (HasBetween set level p.old p.new) =
    subst (λ o. MatchOption o ⊤ (λ l. ¬ (HasBetween set l p.old p.new))) there.0 nearest in
    let none : ¬ (HasBetween set level old new) =
    subst (λ v. ¬ (HasBetween set level v new)) (one_old tailoring r level p.old p.new old new there.1 at)
    (subst (λ v. ¬ (HasBetween set level p.old v)) (one_new tailoring r level p.old p.new old new there.1 at) here) in
    record {
      known = λ w known between. none (w, (holds level w).1 (inl known), between);
      earlier = λ w earlier between. none (w, (holds level w).1 (inr earlier), between);
    }

-- and where its relation is nearest a placement passes the test
pub nearest_relation : (tailoring : Tailoring) (set : Flags) (before : List Relation) (r : Relation) (after : List Relation) (p : Placement) →
    HoldsKnownAndNew tailoring before set → IsPlacement tailoring r p → IsNearest tailoring before r after → IsNearestPlacement set p
nearest_relation tailoring set before r after p holds is nearest = by_level p.level refl
  where
    by_level : (at : Option Level) → p.level ≡ at → IsNearestPlacement set p
    by_level None none = subst (λ o. MatchOption o ⊤ (λ l. ¬ (HasBetween set l p.old p.new))) (sym none) tt
    by_level (Some level) there =
        let found = nearest level p.old p.new (puts_there tailoring r p level is there) in
        subst (λ o. MatchOption o ⊤ (λ l. ¬ (HasBetween set l p.old p.new))) (sym there)
        (λ (w, has, between). ⊎_elim (λ known. found.known w known between) (λ earlier. found.earlier w earlier between) ((holds level w).0 has))

-- ---- The pass over the placements

-- the relation of a placement that passes the test is nearest
pub nearest_more : (tailoring : Tailoring) (placements : List Placement) (set : Flags) (i : ℕ) (d : Placement) (nearest : Bool) →
    AllZip (IsPlacement tailoring) tailoring.relations placements → HoldsKnownAndNew tailoring (take i tailoring.relations) set →
    i < length placements → AllBelow (IsNearest tailoring) tailoring.relations i →
    IsTrue nearest ↔ IsNearestPlacement set (get_or placements i d) → nearest ≡ true → AllBelow (IsNearest tailoring) tailoring.relations (suc i)
nearest_more tailoring placements set i d nearest are holds within below test passes =
    let at = in_step (IsPlacement tailoring) tailoring.relations placements are i d within in
    below_one_more (IsNearest tailoring) tailoring.relations i at.x at.more at.rest below
    (nearest_placement tailoring set (take i tailoring.relations) at.x (drop (suc i) tailoring.relations) (get_or placements i d)
    holds at.here (test.0 passes))

-- that of one that does not is the first that is not
pub nearest_fails : (tailoring : Tailoring) (placements : List Placement) (set : Flags) (i : ℕ) (d : Placement) (nearest : Bool) →
    AllZip (IsPlacement tailoring) tailoring.relations placements → HoldsKnownAndNew tailoring (take i tailoring.relations) set →
    i < length placements → AllBelow (IsNearest tailoring) tailoring.relations i →
    IsTrue nearest ↔ IsNearestPlacement set (get_or placements i d) → nearest ≡ false →
    IsFirstRelationWithout (IsNearest tailoring) tailoring.relations (suc i)
nearest_fails tailoring placements set i d nearest are holds within below test fails =
    let at = in_step (IsPlacement tailoring) tailoring.relations placements are i d within in
    first_here (IsNearest tailoring) tailoring.relations i at.x at.rest at.place below
    (λ is. false≢true (sym fails ∙ test.1
    (nearest_relation tailoring set (take i tailoring.relations) at.x (drop (suc i) tailoring.relations) (get_or placements i d) holds at.here is)))

-- the set after the test
pub known_next : (tailoring : Tailoring) (placements : List Placement) (old new : Flags) (i : ℕ) (d : Placement) →
    AllZip (IsPlacement tailoring) tailoring.relations placements → HoldsKnownAndNew tailoring (take i tailoring.relations) old →
    i < length placements →
    ((level : Level) (w : ℕ) → HasWeight new level w ↔ (IsTrue (puts level w (get_or placements i d)) ⊎ HasWeight old level w)) →
    HoldsKnownAndNew tailoring (take (suc i) tailoring.relations) new
known_next tailoring placements old new i d are holds within adds =
    let at = in_step (IsPlacement tailoring) tailoring.relations placements are i d within in
    subst (λ l. HoldsKnownAndNew tailoring l new) (sym at.more)
    (known_more tailoring (take i tailoring.relations) at.x (get_or placements i d) old new holds at.here adds)
