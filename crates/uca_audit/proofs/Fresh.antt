-- Condition 10, that new weights are fresh: which weights are new twice, and what the pass over all placements finds.
use Rattle.std.proofs.Common.{◌≡◌, ◌⊎◌, inl, inr, ⊎_elim, ◌↔◌, ℕ, suc, ◌+◌, ◌<◌, ◌≤◌, Bool, IsTrue, length, take, drop, get_or, List, [], ◌∷◌, ◌++◌}
use Rattle.std.proofs.Common.{Option, Some, None, MatchOption, cond, true, false, refl, sym, ap, subst, ◌∙◌, arith, add-one}
use Rattle.std.specs.Prelude.{⊤}
use Rattle.std.specs.List.{AllZip}
use Rattle.std.proofs.lemmas.Bool.{cases_lt, false≢true}
use Rattle.uca_weights.specs.declared.Level.{Level}
use Rattle.uca_weights.proofs.Lists.{split_at}
use Rattle.uca_relations.specs.declared.Relation.{Relation}
use Rattle.uca_tailorings.specs.Tailorings.{Tailoring, IsFreshWeight, IsFresh}
use Rattle.uca_tailorings.proofs.Relating.{one_new}
use Rattle.uca_audit.specs.declared.conditions.placements.Placement.{Placement}
use Rattle.uca_audit.specs.Refusals.{IsFirstRelationWithout}
use Rattle.uca_audit.specs.inside.Views.{IsPlacement}
use Rattle.uca_audit.specs.inside.WeightSets.{Flags, HasWeight, AddsWeight}
use Rattle.uca_audit.specs.inside.NewWeights.{times_new, HoldsKnown, HoldsNew, IsFreshAt, IsFreshPlacement}
use Rattle.uca_audit.proofs.Passes.{in_step, AllBelow, below_one_more, first_here}
use Rattle.uca_audit.proofs.PlacedWeights.{placed_there, puts_there, puts_cases, times_push, times_split, new_counted}

-- ---- Weights that are new twice

-- one more placement, whose new weight was seen
pub shared_more : (placements : List Placement) (p : Placement) (level : Level) (seen old new : Flags) → p.level ≡ Some level →
    HoldsNew 1 placements seen → HoldsNew 2 placements old → HasWeight seen level p.new → AddsWeight old new level p.new →
    HoldsNew 2 (placements ++ p ∷ []) new
shared_more placements p level seen old new there once twice was adds l w = ⊎_elim
    (λ put.
    let count = times_push l w placements p ∙ ap (λ b. times_new l w placements + cond b 1 0) put.0 in
    let some = (once l w).0 (subst (λ k. HasWeight seen k w) (sym put.1) (subst (HasWeight seen level) (sym put.2) was)) in
    (λ has. omega arith, λ two. (adds l w).1 (inl (put.1, put.2))))
    (λ other.
    let count = times_push l w placements p ∙ ap (λ b. times_new l w placements + cond b 1 0) other.0 in (
      (λ has. ⊎_elim (λ same. absurd (other.1 same)) (λ before. let two = (twice l w).0 before in omega arith) ((adds l w).0 has)),
      λ two. (adds l w).1 (inr ((twice l w).1 (omega arith))),
    ))
    (puts_cases p level l w there)

-- one whose new weight was not
pub shared_same : (placements : List Placement) (p : Placement) (level : Level) (seen old : Flags) → p.level ≡ Some level →
    HoldsNew 1 placements seen → HoldsNew 2 placements old → ¬ (HasWeight seen level p.new) → HoldsNew 2 (placements ++ p ∷ []) old
shared_same placements p level seen old there once twice was_not l w = ⊎_elim
    (λ put.
    let count = times_push l w placements p ∙ ap (λ b. times_new l w placements + cond b 1 0) put.0 in
    let none : 1 ≤ times_new l w placements → ⊥ =
    λ some. was_not (subst (HasWeight seen level) put.2 (subst (λ k. HasWeight seen k w) put.1 ((once l w).1 some))) in
    (λ has. let two = (twice l w).0 has in absurd (none (omega arith)), λ two. absurd (none (omega arith))))
    (λ other.
    let count = times_push l w placements p ∙ ap (λ b. times_new l w placements + cond b 1 0) other.0 in
    (λ has. let two = (twice l w).0 has in omega arith, λ two. (twice l w).1 (omega arith)))
    (puts_cases p level l w there)

-- with one more placement, the weights that are new at least once are those before and its own new weight
pub seen_more : (placements : List Placement) (p : Placement) (level : Level) (old new : Flags) → p.level ≡ Some level →
    HoldsNew 1 placements old → AddsWeight old new level p.new → HoldsNew 1 (placements ++ p ∷ []) new
seen_more placements p level old new there once adds l w = ⊎_elim
    (λ put.
    let count = times_push l w placements p ∙ ap (λ b. times_new l w placements + cond b 1 0) put.0 in
    (λ has. omega arith, λ one. (adds l w).1 (inl (put.1, put.2))))
    (λ other.
    let count = times_push l w placements p ∙ ap (λ b. times_new l w placements + cond b 1 0) other.0 in (
      (λ has. ⊎_elim (λ same. absurd (other.1 same)) (λ before. let one = (once l w).0 before in omega arith) ((adds l w).0 has)),
      λ one. (adds l w).1 (inr ((once l w).1 (omega arith))),
    ))
    (puts_cases p level l w there)

-- ---- A placement among all

-- a sum above 0 has a part above 0
either : (m n : ℕ) → 1 ≤ m + n → (1 ≤ m) ⊎ (1 ≤ n)
either m n some = ⊎_elim (λ (less : 0 < m). inl (omega arith)) (λ (not : m ≤ 0). inr (omega arith)) (cases_lt 0 m)

module _ (tailoring : Tailoring) (known shared : Flags) (before : List Relation) (r : Relation) (after : List Relation)
    (front : List Placement) (p : Placement) (back : List Placement) (is_known : HoldsKnown tailoring known)
    (is_shared : HoldsNew 2 (front ++ p ∷ back) shared) (are_before : AllZip (IsPlacement tailoring) before front)
    (is : IsPlacement tailoring r p) (are_after : AllZip (IsPlacement tailoring) after back) where
  -- its new weight is counted once, and with those on both sides
  counted : (level : Level) → p.level ≡ Some level →
      times_new level p.new (front ++ p ∷ back) ≡ times_new level p.new front + (1 + times_new level p.new back)
  counted level there =
      times_split level p.new front p back
      ∙ ap (λ b. times_new level p.new front + (cond b 1 0 + times_new level p.new back))
      (⊎_elim (λ put. put.0) (λ other. absurd (other.1 (refl, refl))) (puts_cases p level level p.new there))

  -- where the placement passes the test its relation is fresh
  pub fresh_placement : IsFreshPlacement known shared p → IsFresh tailoring before r after
  fresh_placement fresh level old new at =
      let there = placed_there tailoring r p level old new is at in
      let found : IsFreshAt known shared level p.new =
      subst (λ o. MatchOption o ⊤ (λ l. IsFreshAt known shared l p.new)) there.0 fresh in
      let count = counted level there.0 in
      subst (IsFreshWeight tailoring before after level) (one_new tailoring r level p.old p.new old new there.1 at)
      (record {
        unknown = λ is. found.unknown ((is_known level p.new).1 is);
        own_before = λ own. let some = (new_counted tailoring before front are_before level p.new).0 own in
            found.own ((is_shared level p.new).1 (omega arith));
        own_after = λ own. let some = (new_counted tailoring after back are_after level p.new).0 own in
            found.own ((is_shared level p.new).1 (omega arith));
        low = found.low;
      })

  -- and where its relation is fresh it passes the test
  pub fresh_relation : IsFresh tailoring before r after → IsFreshPlacement known shared p
  fresh_relation fresh = by_level p.level refl
    where
      by_level : (at : Option Level) → p.level ≡ at → IsFreshPlacement known shared p
      by_level None none = subst (λ o. MatchOption o ⊤ (λ l. IsFreshAt known shared l p.new)) (sym none) tt
      by_level (Some level) there =
          let found = fresh level p.old p.new (puts_there tailoring r p level is there) in
          let count = counted level there in
          subst (λ o. MatchOption o ⊤ (λ l. IsFreshAt known shared l p.new)) (sym there)
          (record {
            unknown = λ has. found.unknown ((is_known level p.new).0 has);
            own = λ has.
                let two = (is_shared level p.new).0 has in
                let none : 1 ≤ times_new level p.new front → ⊥ =
                λ some. found.own_before ((new_counted tailoring before front are_before level p.new).1 some) in
                let none_after : 1 ≤ times_new level p.new back → ⊥ =
                λ some. found.own_after ((new_counted tailoring after back are_after level p.new).1 some) in
                ⊎_elim none none_after (either (times_new level p.new front) (times_new level p.new back) (omega arith));
            low = found.low;
          })

-- ---- The pass over the placements

-- the relation of a placement that passes the test is fresh
pub fresh_more : (tailoring : Tailoring) (placements : List Placement) (known shared : Flags) (i : ℕ) (d : Placement) (fresh : Bool) →
    AllZip (IsPlacement tailoring) tailoring.relations placements → HoldsKnown tailoring known → HoldsNew 2 placements shared →
    i < length placements → AllBelow (IsFresh tailoring) tailoring.relations i →
    IsTrue fresh ↔ IsFreshPlacement known shared (get_or placements i d) → fresh ≡ true → AllBelow (IsFresh tailoring) tailoring.relations (suc i)
fresh_more tailoring placements known shared i d fresh are is_known is_shared within below test passes =
    let at = in_step (IsPlacement tailoring) tailoring.relations placements are i d within in
    below_one_more (IsFresh tailoring) tailoring.relations i at.x at.more at.rest below
    (fresh_placement tailoring known shared (take i tailoring.relations) at.x (drop (suc i) tailoring.relations)
    (take i placements) (get_or placements i d) (drop (suc i) placements) is_known
    (subst (λ l. HoldsNew 2 l shared) (rw add-one at (split_at placements i d within)) is_shared) at.before at.here at.after (test.0 passes))

-- that of one that does not is the first that is not
pub fresh_fails : (tailoring : Tailoring) (placements : List Placement) (known shared : Flags) (i : ℕ) (d : Placement) (fresh : Bool) →
    AllZip (IsPlacement tailoring) tailoring.relations placements → HoldsKnown tailoring known → HoldsNew 2 placements shared →
    i < length placements → AllBelow (IsFresh tailoring) tailoring.relations i →
    IsTrue fresh ↔ IsFreshPlacement known shared (get_or placements i d) → fresh ≡ false → IsFirstRelationWithout (IsFresh tailoring) tailoring.relations (suc i)
fresh_fails tailoring placements known shared i d fresh are is_known is_shared within below test fails =
    let at = in_step (IsPlacement tailoring) tailoring.relations placements are i d within in
    first_here (IsFresh tailoring) tailoring.relations i at.x at.rest at.place below
    (λ holds. false≢true (sym fails ∙ test.1
    (fresh_relation tailoring known shared (take i tailoring.relations) at.x (drop (suc i) tailoring.relations)
    (take i placements) (get_or placements i d) (drop (suc i) placements) is_known
    (subst (λ l. HoldsNew 2 l shared) (rw add-one at (split_at placements i d within)) is_shared) at.before at.here at.after holds)))
