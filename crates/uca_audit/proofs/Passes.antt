-- One pass over the relations of rules and what was found of each, in step.
use Rattle.std.proofs.Common.{◌≡◌, ⊎_elim, ℕ, zero, suc, ◌<◌, ◌≤◌, List, [], ◌∷◌, ◌++◌, length, take, drop, get_or, refl, sym, ap}
use Rattle.std.proofs.Common.{subst, ◌∙◌, append_assoc, arith}
use Rattle.std.specs.List.{AllZip}
use Rattle.std.proofs.lemmas.List.{same_from_push, take-append-drop, take_all, drop_all, append-nil}
use Rattle.uca_weights.proofs.Lists.{not_nil, by_last}
use Rattle.uca_relations.specs.declared.Relation.{Relation}
use Rattle.uca_tailorings.specs.Tailorings.{AllRelations}
use Rattle.uca_audit.specs.Refusals.{IsFirstRelationWithout}

-- ---- Two lists in step

-- what is at an index of two lists, and before and after it
pub record AreInStep {A B : Type 0} (R : A → B → Type 0) (xs : List A) (ys : List B) (i : ℕ) (d : B) : Type 0 where
  pub x : A
  pub more : take (suc i) xs ≡ take i xs ++ x ∷ []
  pub rest : drop i xs ≡ x ∷ drop (suc i) xs
  pub place : length (take i xs) ≡ i
  pub before : AllZip R (take i xs) (take i ys)
  pub here : R x (get_or ys i d)
  pub after : AllZip R (drop (suc i) xs) (drop (suc i) ys)

-- two lists in step have an element each at every index
pub in_step : {A B : Type 0} (R : A → B → Type 0) (xs : List A) (ys : List B) → AllZip R xs ys → (i : ℕ) (d : B) → i < length ys → AreInStep R xs ys i d
in_step R [] [] are i d within = absurd (omega arith)
in_step R [] (y ∷ ys) are i d within = absurd are
in_step R (x ∷ xs) [] are i d within = absurd are
in_step R (x ∷ xs) (y ∷ ys) are zero d within = record { x = x; more = refl; rest = refl; place = refl; before = tt; here = are.0; after = are.1 }
in_step R (x ∷ xs) (y ∷ ys) are (suc i) d within =
    let next = in_step R xs ys are.1 i d (omega arith) in
    record {
      x = next.x;
      more = ap (λ zs. x ∷ zs) next.more;
      rest = next.rest;
      place = ap suc next.place;
      before = (are.0, next.before);
      here = next.here;
      after = next.after;
    }

-- they are equally long
pub length_in_step : {A B : Type 0} (R : A → B → Type 0) (xs : List A) (ys : List B) → AllZip R xs ys → length xs ≡ length ys
length_in_step R [] [] are = refl
length_in_step R [] (y ∷ ys) are = absurd are
length_in_step R (x ∷ xs) [] are = absurd are
length_in_step R (x ∷ xs) (y ∷ ys) are = ap suc (length_in_step R xs ys are.1)

-- ---- Relations so far

-- each relation before an index has the property
abbrev pub AllBelow : (List Relation → Relation → List Relation → Type 0) → List Relation → ℕ → Type 0
AllBelow P relations i = (front : List Relation) (s : Relation) (back : List Relation) → take i relations ≡ front ++ s ∷ back → P front s (back ++ drop i relations)

-- no relation comes before the first
pub below_none : (P : List Relation → Relation → List Relation → Type 0) (relations : List Relation) → AllBelow P relations 0
below_none P relations front s back same = absurd (not_nil front s back same)

-- one more relation with the property
pub below_one_more : (P : List Relation → Relation → List Relation → Type 0) (relations : List Relation) (i : ℕ) (r : Relation) →
    take (suc i) relations ≡ take i relations ++ r ∷ [] → drop i relations ≡ r ∷ drop (suc i) relations →
    AllBelow P relations i → P (take i relations) r (drop (suc i) relations) → AllBelow P relations (suc i)
below_one_more P relations i r more rest below here front s back same = ⊎_elim
    (λ none.
    let parts = same_from_push (take i relations) front r s (sym more ∙ same ∙ ap (λ l. front ++ s ∷ l) none) in
    subst (λ l. P front s (l ++ drop (suc i) relations)) (sym none)
    (subst (λ x. P front x (drop (suc i) relations)) parts.1 (subst (λ l. P l r (drop (suc i) relations)) parts.0 here)))
    (λ (some : (b : List Relation) × (last : Relation) × (back ≡ b ++ last ∷ [])).
    let (b, last, ends) = some in
    let parts = same_from_push (take i relations) (front ++ s ∷ b) r last
    (sym more ∙ same ∙ ap (λ l. front ++ s ∷ l) ends ∙ sym (append_assoc front (s ∷ b) (last ∷ []))) in
    let whole : back ++ drop (suc i) relations ≡ b ++ drop i relations =
    ap (λ l. l ++ drop (suc i) relations) ends ∙ append_assoc b (last ∷ []) (drop (suc i) relations)
    ∙ ap (λ x. b ++ x ∷ drop (suc i) relations) (sym parts.1) ∙ ap (λ l. b ++ l) (sym rest) in
    subst (P front s) (sym whole) (below front s b parts.0))
    (by_last back)

-- at the end all relations have it
pub below_whole : (P : List Relation → Relation → List Relation → Type 0) (relations : List Relation) (i : ℕ) → length relations ≤ i →
    AllBelow P relations i → AllRelations P relations
below_whole P relations i whole below before r after same =
    subst (P before r) (ap (λ l. after ++ l) (drop_all i relations whole) ∙ append-nil after) (below before r after (take_all i relations whole ∙ same))

-- the first relation without the property
pub first_here : (P : List Relation → Relation → List Relation → Type 0) (relations : List Relation) (i : ℕ) (r : Relation) →
    drop i relations ≡ r ∷ drop (suc i) relations → length (take i relations) ≡ i → AllBelow P relations i →
    ¬ (P (take i relations) r (drop (suc i) relations)) → IsFirstRelationWithout P relations (suc i)
first_here P relations i r rest place below not = record {
  before = take i relations;
  r = r;
  after = drop (suc i) relations;
  split = sym (take-append-drop i relations) ∙ ap (λ l. take i relations ++ l) rest;
  place = ap suc (sym place);
  earlier = λ front s back same. subst (λ l. P front s (back ++ l)) rest (below front s back same);
  without = not;
}
