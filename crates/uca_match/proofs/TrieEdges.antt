-- Edges in rising order: the edge of a code point, and a new edge put between the others.
use Rattle.std.proofs.Common.{◌≡◌, ℕ, zero, suc, ◌<◌, ◌≤◌, inl, inr, true, false, ltb, eqb, cond, List, [], ◌∷◌, ◌++◌, length, get_or, Option, Some, None}
use Rattle.std.proofs.Common.{refl, ap, subst, sym, ◌∙◌, arith}
use Rattle.std.proofs.lemmas.Bool.{ltb-true, ltb-false, eq-eqb, ne_eqb, cases_Bool, cases_lt, cases_order, cond-true, cond-false}
use Rattle.std.proofs.lemmas.List.Recursion.{found_at, found_nowhere}
use Rattle.std.specs.List.{AllByRecursion, insert}
use Rattle.std.specs.List.Sorted.{IsNonDecreasingBy, IsPartitionPoint}
use Rattle.std.proofs.lemmas.List.{get_or_default}
use Rattle.uca_values.proofs.Rising.{all_at}
use Rattle.uca_values.proofs.Gaps.{all_insert}
use Rattle.uca_match.specs.Tries.{target_of, AreRisingEdges, IsNewPlace}
use Rattle.uca_match.specs.declared.key_map.Edge.{Edge}

-- ---- By position

all_from_places : (P : Edge → Type 0) (edges : List Edge) → ((k : ℕ) (d : Edge) → k < length edges → P (get_or edges k d)) → AllByRecursion P edges
all_from_places P [] h = tt
all_from_places P (e ∷ edges) h = (h 0 e (omega arith), all_from_places P edges (λ k d l. h (suc k) d (omega arith)))

rising_at : (edges : List Edge) → AreRisingEdges edges → (i j : ℕ) (d : Edge) → i < j → j < length edges →
    (get_or edges i d).point < (get_or edges j d).point
rising_at [] h i j d l m = absurd (omega arith)
rising_at (e ∷ edges) h i zero d l m = absurd (omega arith)
rising_at (e ∷ edges) h zero (suc j) d l m = all_at (λ f. e.point < f.point) edges h.0 j d (omega arith)
rising_at (e ∷ edges) h (suc i) (suc j) d l m = rising_at edges h.1 i j d (omega arith) (omega arith)

pub never_falling : (edges : List Edge) → AreRisingEdges edges → IsNonDecreasingBy (λ (e : Edge). e.point) edges
never_falling edges h i j d l m =
    elim (cases_order i j) [
      | inl e ↦ let P : ℕ → Type 0 = λ k. (get_or edges i d).point ≤ (get_or edges k d).point in subst P e (omega arith)
      | inr (inl less) ↦ let a = rising_at edges h i j d less m in omega (arith, a)
      | inr (inr more) ↦ absurd (omega arith)
    ]

-- ---- The position of a code point

-- the edges before the position are below the code point, and those from it on are not
abbrev pub IsPlace : List Edge → ℕ → ℕ → Type 0
IsPlace edges point at = IsPartitionPoint (λ e. e.point < point) (λ e. point ≤ e.point) edges at

pub place_from_tests : (edges : List Edge) (point at : ℕ) →
    IsPartitionPoint (λ e. ltb e.point point ≡ true) (λ e. ltb e.point point ≡ false) edges at → IsPlace edges point at
place_from_tests edges point at h = (λ k d a b. ltb-true _ _ (h.0 k d a b), λ k d a b. ltb-false _ _ (h.1 k d a b))

pub edge_found : (edges : List Edge) (point at : ℕ) → IsPlace edges point at → (d : Edge) → at < length edges → (get_or edges at d).point ≡ point →
    target_of edges point ≡ Some (get_or edges at d).target
edge_found edges point at place d l same =
    found_at (λ es. target_of es point) (λ e. eqb e.point point) (λ e. Some e.target) None refl (λ _ _. refl) edges at d l
    (λ k below. ne_eqb _ _ (λ e. absurd (omega (arith, place.0 k d (omega arith) below))))
    (eq-eqb _ _ same)

pub new_place : (edges : List Edge) → AreRisingEdges edges → (point at : ℕ) → at ≤ length edges → IsPlace edges point at → (d : Edge) →
    (at < length edges → (get_or edges at d).point ≡ point → ⊥) → IsNewPlace edges point at
new_place edges rising point at bound place d other = record { bound = bound; place = (place.0, above) }
  where
    here : (e : Edge) → at < length edges → point < (get_or edges at e).point
    here e l =
        elim (cases_order (get_or edges at e).point point) [
          | inl same ↦ absurd (other l (ap (λ (f : Edge). f.point) (get_or_default edges at d e l) ∙ same))
          | inr (inl less) ↦ absurd (omega (arith, less, place.1 at e (omega arith) l))
          | inr (inr more) ↦ more
        ]

    above : (k : ℕ) (e : Edge) → at ≤ k → k < length edges → point < (get_or edges k e).point
    above k e a l =
        elim (cases_order at k) [
          | inl same ↦ let P : ℕ → Type 0 = λ i. i < length edges → point < (get_or edges i e).point in subst P same (here e) l
          | inr (inl less) ↦ omega (arith, rising_at edges rising at k e less l, here e (omega arith))
          | inr (inr more) ↦ absurd (omega arith)
        ]

pub none_at_new_place : (edges : List Edge) (point at : ℕ) → IsNewPlace edges point at → target_of edges point ≡ None
none_at_new_place edges point at new =
    found_nowhere (λ es. target_of es point) (λ e. eqb e.point point) (λ e. Some e.target) None refl (λ _ _. refl) edges (record { point = 0; target = 0 })
    (λ k l. ne_eqb _ _ (elim (cases_lt k at) [
      | inl below ↦ (λ same. absurd (omega (arith, same, new.place.0 k (record { point = 0; target = 0 }) (omega arith) below)))
      | inr from ↦ (λ same. absurd (omega (arith, same, new.place.1 k (record { point = 0; target = 0 }) from l)))
    ]))

-- ---- A new edge

pub target_of_new : (edges : List Edge) (at : ℕ) (e : Edge) → target_of edges e.point ≡ None → target_of (insert edges at e) e.point ≡ Some e.target
target_of_new edges zero e none = cond-true (eqb e.point e.point) (Some e.target) (target_of edges e.point) (eq-eqb _ _ refl)
target_of_new [] (suc at) e none = cond-true (eqb e.point e.point) (Some e.target) None (eq-eqb _ _ refl)
target_of_new (f ∷ edges) (suc at) e none =
    elim (cases_Bool (eqb f.point e.point)) [
      | inl same ↦ let some : target_of (f ∷ edges) e.point ≡ Some f.target =
          cond-true (eqb f.point e.point) (Some f.target) (target_of edges e.point) same in cc
      | inr other ↦
          let rest : target_of (f ∷ edges) e.point ≡ target_of edges e.point =
          cond-false (eqb f.point e.point) (Some f.target) (target_of edges e.point) other in
          cond-false (eqb f.point e.point) (Some f.target) (target_of (insert edges at e) e.point) other ∙ target_of_new edges at e (sym rest ∙ none)
    ]

pub target_of_others : (edges : List Edge) (at : ℕ) (e : Edge) (c : ℕ) → (e.point ≡ c → ⊥) → target_of (insert edges at e) c ≡ target_of edges c
target_of_others edges zero e c other = cond-false (eqb e.point c) (Some e.target) (target_of edges c) (ne_eqb _ _ other)
target_of_others [] (suc at) e c other = cond-false (eqb e.point c) (Some e.target) None (ne_eqb _ _ other)
target_of_others (f ∷ edges) (suc at) e c other = ap (λ (o : Option ℕ). cond (eqb f.point c) (Some f.target) o) (target_of_others edges at e c other)

pub rising_with_new : (edges : List Edge) → AreRisingEdges edges → (at : ℕ) (e : Edge) → IsNewPlace edges e.point at → AreRisingEdges (insert edges at e)
rising_with_new edges rising zero e new = (all_from_places (λ f. e.point < f.point) edges (λ k d l. new.place.1 k d (omega arith) l), rising)
rising_with_new [] rising (suc at) e new = (tt, tt)
rising_with_new (f ∷ edges) rising (suc at) e new = (
  all_insert (λ (g : Edge). f.point < g.point) edges e at (new.place.0 0 f (omega arith) (omega arith)) rising.0,
  rising_with_new edges rising.1 at e (record {
    bound = omega (arith, new.bound);
    place = (λ k d a b. new.place.0 (suc k) d (omega arith) (omega arith), λ k d a b. new.place.1 (suc k) d (omega arith) (omega arith));
  }),
)

-- ---- An edge at the end

pub target_of_front : (edges : List Edge) (e : Edge) (c : ℕ) → (e.point ≡ c → ⊥) → target_of (edges ++ e ∷ []) c ≡ target_of edges c
target_of_front [] e c other = cond-false (eqb e.point c) (Some e.target) None (ne_eqb _ _ other)
target_of_front (f ∷ edges) e c other = ap (cond (eqb f.point c) (Some f.target)) (target_of_front edges e c other)
