-- Placements of relations: the new weights that they put at each level.
use Rattle.std.proofs.Common.{◌≡◌, ◌⊎◌, inl, inr, ⊎_elim, ◌↔◌, ℕ, ◌+◌, ◌≤◌, ◌&&◌, ◌==◌, List, [], ◌∷◌, ◌++◌, Option, Some, None, Bool, true, false}
use Rattle.std.proofs.Common.{cond, IsTrue, refl, sym, ap, subst, ◌∙◌, arith}
use Rattle.std.specs.List.{AllZip}
use Rattle.std.proofs.lemmas.List.Sums.{sum_by-append, sum_by-cons}
use Rattle.std.proofs.lemmas.Bool.{false≢true}
use Rattle.std.proofs.lemmas.Bool.Decides.{eqb_tells}
use Rattle.uca_weights.specs.declared.Level.{Level}
use Rattle.uca_weights.specs.declared.Level.TheVariants.{One, Two, Three}
use Rattle.uca_weights.specs.Levels.{level_number, level_of}
use Rattle.uca_relations.specs.declared.Relation.{Relation}
use Rattle.uca_tailorings.specs.Tailorings.{Tailoring, IsPlacedAt, IsNewWeight}
use Rattle.uca_tailorings.proofs.Relating.{one_new}
use Rattle.uca_audit.specs.declared.conditions.placements.Placement.{Placement}
use Rattle.uca_audit.specs.inside.Views.{IsPlacement, IsPlacementBy}
use Rattle.uca_audit.specs.inside.NewWeights.{is_level, puts, times_new}

-- ---- One placement

-- a relation that puts a new weight at a level is placed there
pub placed_there : (tailoring : Tailoring) (r : Relation) (p : Placement) (level : Level) (old new : ℕ) → IsPlacement tailoring r p →
    IsPlacedAt tailoring r level old new → (p.level ≡ Some level) × IsPlacedAt tailoring r level p.old p.new
placed_there tailoring r p level old new is at = subst (IsPlacementBy tailoring r p) at.strength is

-- a placement at a level puts its weights there
pub puts_there : (tailoring : Tailoring) (r : Relation) (p : Placement) (level : Level) → IsPlacement tailoring r p → p.level ≡ Some level →
    IsPlacedAt tailoring r level p.old p.new
puts_there tailoring r p level is there = by_strength (level_of r.strength) is
  where
    by_strength : (by : Option Level) → IsPlacementBy tailoring r p by → IsPlacedAt tailoring r level p.old p.new
    by_strength None none = let e : None ≡ Some level = sym none ∙ there in absurd (cc)
    by_strength (Some other) some =
        let e : Some other ≡ Some level = sym some.0 ∙ there in
        let same : other ≡ level = cc in
        subst (λ l. IsPlacedAt tailoring r l p.old p.new) same some.1

-- ---- Levels

-- levels with the same number are the same
level_same : (level other : Level) → level_number level ≡ level_number other → level ≡ other
level_same One One e = refl
level_same One Two e = absurd (omega arith)
level_same One Three e = absurd (omega arith)
level_same Two One e = absurd (omega arith)
level_same Two Two e = refl
level_same Two Three e = absurd (omega arith)
level_same Three One e = absurd (omega arith)
level_same Three Two e = absurd (omega arith)
level_same Three Three e = refl

-- whether a placement at a level puts a weight at another
pub puts_cases : (p : Placement) (level l : Level) (w : ℕ) → p.level ≡ Some level →
    ((puts l w p ≡ true) × (l ≡ level) × (w ≡ p.new)) ⊎ ((puts l w p ≡ false) × ¬ ((l ≡ level) × (w ≡ p.new)))
puts_cases p level l w there = ⊎_elim
    (λ same. ⊎_elim
    (λ equal. inl (ap (λ o. is_level l o && p.new == w) there ∙ ap (λ b. b && p.new == w) same.0 ∙ equal.0, level_same l level same.1, sym equal.1))
    (λ other. inr (ap (λ o. is_level l o && p.new == w) there ∙ ap (λ b. b && p.new == w) same.0 ∙ other.0, λ both. other.1 (sym both.1)))
    (eqb_tells p.new w))
    (λ other. inr (ap (λ o. is_level l o && p.new == w) there ∙ ap (λ b. b && p.new == w) other.0, λ both. other.1 (ap level_number both.0)))
    (eqb_tells (level_number l) (level_number level))

-- one at no level puts none
pub puts_none : (p : Placement) (l : Level) (w : ℕ) → p.level ≡ None → puts l w p ≡ false
puts_none p l w none = ap (λ o. is_level l o && p.new == w) none

-- a placement puts the new weights of its relation
pub puts_new : (tailoring : Tailoring) (r : Relation) (p : Placement) → IsPlacement tailoring r p → (l : Level) (w : ℕ) →
    IsTrue (puts l w p) ↔ ((old : ℕ) × IsPlacedAt tailoring r l old w)
puts_new tailoring r p is l w = (forth p.level refl, back)
  where
    forth : (at : Option Level) → p.level ≡ at → IsTrue (puts l w p) → (old : ℕ) × IsPlacedAt tailoring r l old w
    forth None none put = absurd (false≢true (sym (puts_none p l w none) ∙ put))
    forth (Some level) there put = ⊎_elim
        (λ same. (
          p.old,
          subst (λ v. IsPlacedAt tailoring r l p.old v) (sym same.2)
              (subst (λ k. IsPlacedAt tailoring r k p.old p.new) (sym same.1) (puts_there tailoring r p level is there)),
        ))
        (λ other. absurd (false≢true (sym other.0 ∙ put)))
        (puts_cases p level l w there)

    back : (old : ℕ) × IsPlacedAt tailoring r l old w → IsTrue (puts l w p)
    back (old, at) =
        let there = placed_there tailoring r p l old w is at in
        let same = one_new tailoring r l p.old p.new old w there.1 at in
        ⊎_elim (λ put. put.0) (λ other. absurd (other.1 (refl, sym same))) (puts_cases p l l w there.0)

-- ---- Counts

-- one more placement
pub times_push : (l : Level) (w : ℕ) (placements : List Placement) (p : Placement) →
    times_new l w (placements ++ p ∷ []) ≡ times_new l w placements + cond (puts l w p) 1 0
times_push l w placements p = let e = sum_by-append (λ q. cond (puts l w q) 1 0) placements (p ∷ []) in omega arith

-- placements on both sides of one
pub times_split : (l : Level) (w : ℕ) (before : List Placement) (p : Placement) (after : List Placement) →
    times_new l w (before ++ p ∷ after) ≡ times_new l w before + (cond (puts l w p) 1 0 + times_new l w after)
times_split l w before p after =
    sum_by-append (λ q. cond (puts l w q) 1 0) before (p ∷ after)
    ∙ ap (λ n. times_new l w before + n) (sum_by-cons (λ q. cond (puts l w q) 1 0) p after)

-- a test is true or false
true_or_false : (b : Bool) → (b ≡ true) ⊎ (b ≡ false)
true_or_false true = inl refl
true_or_false false = inr refl

-- a weight is new where it is counted
pub new_counted : (tailoring : Tailoring) (relations : List Relation) (placements : List Placement) →
    AllZip (IsPlacement tailoring) relations placements → (l : Level) (w : ℕ) →
    IsNewWeight tailoring l w relations ↔ (1 ≤ times_new l w placements)
new_counted tailoring [] [] are l w = (λ none. absurd none, λ some. absurd (omega arith))
new_counted tailoring [] (p ∷ placements) are l w = absurd are
new_counted tailoring (r ∷ relations) [] are l w = absurd are
new_counted tailoring (r ∷ relations) (p ∷ placements) are l w =
    let rest = new_counted tailoring relations placements are.1 l w in
    let here = puts_new tailoring r p are.0 l w in
    let count : times_new l w (p ∷ placements) ≡ cond (puts l w p) 1 0 + times_new l w placements = sum_by-cons (λ q. cond (puts l w q) 1 0) p placements in (
      (λ new. ⊎_elim
          (λ own. let one : cond {A = ℕ} (puts l w p) 1 0 ≡ 1 = ap (λ b. cond b 1 0) (here.1 own) in omega arith)
          (λ later. let more = rest.0 later in omega arith) new),
      λ some. ⊎_elim
          (λ put. inl (here.0 put))
          (λ not. let none : cond {A = ℕ} (puts l w p) 1 0 ≡ 0 = ap (λ b. cond b 1 0) not in inr (rest.1 (omega arith)))
          (true_or_false (puts l w p)),
    )
