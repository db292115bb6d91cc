-- The names of new weights: each relation has its own, and they rise along the insertions.
use Rattle.std.proofs.Common.{◌≡◌, ℕ, ◌+◌, ◌<◌, ◌≤◌, List, [], ◌∷◌, ◌++◌, length, Bool, Option, Some, None, Ok, refl, sym, subst, arith}
use Rattle.std.specs.List.{AllByRecursion}
use Rattle.uca_weights.specs.declared.Level.{Level}
use Rattle.uca_weights.specs.Levels.{level_of}
use Rattle.uca_relations.specs.declared.Relation.{Relation}
use Rattle.uca_plans.specs.declared.drafts.DraftElement.{DraftElement}
use Rattle.uca_plans.specs.declared.drafts.DraftWeight.TheVariants.{New}
use Rattle.uca_plans.specs.declared.drafts.Insertion.{Insertion}
use Rattle.uca_plans.specs.Lists.{IsNamedBelow, InsertsBelow}
use Rattle.uca_plans.specs.Drafts.{AnchorPart, anchor_part, accepted_part, draft_elements}
use Rattle.uca_plans.specs.Plans.{Basis, Drafting, Drafted, begun, drafted_at, draft_expansion, placed_after, placed_if_accepted, with_relations}
use Rattle.uca_plans.proofs.PlanSteps.{AreSteps, steps_of}

-- the new weights are those of relations from one on, below another, and rise
abbrev pub AreNamedFrom : ℕ → ℕ → List Insertion → Type 0
AreNamedFrom first end [] = first ≤ end
AreNamedFrom first end (i ∷ insertions) = (n : ℕ) × (i.new ≡ New n) × (first ≤ n) × AreNamedFrom (n + 1) end insertions

-- insertions of later relations come after them
pub named_append : (first middle end : ℕ) (xs ys : List Insertion) → AreNamedFrom first middle xs → AreNamedFrom middle end ys → AreNamedFrom first end (xs ++ ys)
named_append first middle end [] [] h k = omega arith
named_append first middle end [] (y ∷ ys) h k = (k.0, k.1, omega (arith, k.2, h), k.3)
named_append first middle end (x ∷ xs) ys h k = (h.0, h.1, h.2, named_append (h.0 + 1) middle end xs ys h.3 k)

-- what a relation gives its target has its name
named_drafted : (n : ℕ) (level : Option Level) (before : Bool) (anchor expansion : List DraftElement) (new : Drafted) →
    drafted_at level before (New n) anchor expansion ≡ Some new → AreNamedFrom n (n + 1) new.insertions
named_drafted n None before anchor expansion new gives =
    let given : Drafted = record { elements = anchor ++ expansion; insertions = [] } in
    let same : given ≡ new = cc in
    subst (λ (d : Drafted). AreNamedFrom n (n + 1) d.insertions) same (omega arith)
named_drafted n (Some level) before anchor expansion new gives = go (accepted_part level (anchor_part level anchor)) gives
  where
    go : (part : Option AnchorPart) → placed_if_accepted level before (New n) part expansion ≡ Some new → AreNamedFrom n (n + 1) new.insertions
    go None gives = cc
    go (Some part) gives =
        let same : placed_after level before (New n) part expansion ≡ new = cc in
        let least : n ≤ n = omega arith in
        let over : n + 1 ≤ n + 1 = omega arith in
        subst (λ (d : Drafted). AreNamedFrom n (n + 1) d.insertions) same (n, refl, least, over)

-- along the relations the names rise
pub named_along : (basis : Basis) (n : ℕ) (relations : List Relation) (here after : Drafting) → AreSteps basis n relations here after →
    AreNamedFrom 0 n here.insertions → AreNamedFrom 0 (n + length relations) after.insertions
named_along basis n [] here after steps named =
    let same : n ≡ n + 0 = omega arith in
    subst (λ (d : Drafting). AreNamedFrom 0 (n + 0) d.insertions) steps (subst (λ k. AreNamedFrom 0 k here.insertions) same named)
named_along basis n (r ∷ relations) here after steps named =
    let step = steps.1 in
    let added = named_drafted n (level_of r.strength) r.before (draft_elements basis.ranges basis.properties here.rows r.anchor)
    (draft_expansion basis here r.expansion) step.new step.is_drafted in
    let same : n + 1 + length relations ≡ n + length (r ∷ relations) = omega arith in
    subst (λ k. AreNamedFrom 0 k after.insertions) same
    (named_along basis (n + 1) relations steps.0 after steps.2
    (subst (AreNamedFrom 0 (n + 1)) (sym step.insertions) (named_append 0 n (n + 1) here.insertions step.new.insertions named added)))

-- the insertions of all relations
pub drafts_named : (basis : Basis) (relations : List Relation) (drafting : Drafting) → with_relations basis 0 relations (begun basis) ≡ Ok drafting →
    AreNamedFrom 0 (length relations) drafting.insertions
drafts_named basis relations drafting h =
    let same : 0 + length relations ≡ length relations = omega arith in
    subst (λ k. AreNamedFrom 0 k drafting.insertions) same
    (named_along basis 0 relations (begun basis) drafting (steps_of basis 0 relations (begun basis) drafting h) (omega arith))

-- the end is no lower than the beginning
end_above : (first end : ℕ) (insertions : List Insertion) → AreNamedFrom first end insertions → first ≤ end
end_above first end [] named = named
end_above first end (i ∷ insertions) named = omega (arith, end_above (named.0 + 1) end insertions named.3, named.2)

-- each is below the end
pub named_below : (first end : ℕ) (insertions : List Insertion) → AreNamedFrom first end insertions → AllByRecursion (InsertsBelow end) insertions
named_below first end [] named = tt
named_below first end (i ∷ insertions) named =
    let below : named.0 < end = omega (arith, end_above (named.0 + 1) end insertions named.3) in
    (subst (IsNamedBelow end) (sym named.1) below, named_below (named.0 + 1) end insertions named.3)
