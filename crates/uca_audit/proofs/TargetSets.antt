-- The targets of relations, by the keys of a set.
use Rattle.std.proofs.Common.{◌≡◌, ℕ, ◌+◌, ◌<◌, List, [], ◌∷◌, ◌++◌, length, take, map, get_or, Bool, IsTrue, Contains, ◌↔◌, ◌⊎◌, inl, inr, ⊎_elim, refl, sym, subst, ◌∙◌, arith}
use Rattle.std.proofs.Common.{Ordering, Less, Equal, Greater}
use Rattle.std.specs.BTreeSet.{insert_key}
use Rattle.std.specs.Cmp.Lexicographic.{slice_cmp, bytes_decides}
use Rattle.std.specs.List.{list_any}
use Rattle.std.specs.Ordering.{nat_cmp, is_eq, match_ordering}
use Rattle.std.proofs.lemmas.Bool.{or_cases, or_left, or_right}
use Rattle.std.proofs.lemmas.Map.Text.{is_eq-slice_cmp}
use Rattle.uca_weights.proofs.Lists.{taken_more}
use Rattle.uca_relations.specs.declared.Relation.{Relation}
use Rattle.uca_relations.specs.Relations.{IsTarget}
use Rattle.uca_images.proofs.Contains.{contained_first}
use Rattle.uca_audit.specs.inside.Chaining.{AreTargetsOf}

-- ---- Keys of a set

-- a list is found exactly where it is among the keys
pub found_iff : {V : Type 0} (points : V → List ℕ) (key : List ℕ) (keys : List V)
    → IsTrue (list_any (λ k. is_eq (slice_cmp nat_cmp key (points k))) keys) ↔ Contains (map points keys) key
found_iff points key [] = (λ h. absurd (cc), λ h. absurd (omega (arith, h.1)))
found_iff {V} points key (k ∷ keys) =
    let split = contained_first (points k) (map points keys) key in
    let rest = found_iff points key keys in
    let test : V → Bool = λ v. is_eq (slice_cmp nat_cmp key (points v)) in
    let here = bytes_decides key (points k) in
    let same = is_eq-slice_cmp key (points k) in (
      (λ h. split.1 (⊎_elim (λ e. inl (sym (here.0 (sym same ∙ e)))) (λ more. inr (rest.0 more)) (or_cases (test k) (list_any test keys) h))),
      λ h. ⊎_elim
          (λ e. or_left (test k) (list_any test keys) (same ∙ here.1 (sym e)))
          (λ more. or_right (test k) (list_any test keys) (rest.1 more))
          (split.0 h),
    )

-- one more key is inserted, or it is there
inserted_iff : {V : Type 0} (points : V → List ℕ) (order : V → V → Ordering) → ((a b : V) → order a b ≡ Equal → points a ≡ points b)
    → (keys : List V) (k : V) (key : List ℕ)
    → Contains (map points (insert_key order keys k)) key ↔ ((points k ≡ key) ⊎ Contains (map points keys) key)
inserted_iff points order same [] k key = contained_first (points k) [] key
inserted_iff points order same (x ∷ keys) k key = cases (order k x) refl (inserted_iff points order same keys k key)
  where
    cases : (o : Ordering) → order k x ≡ o → Contains (map points (insert_key order keys k)) key ↔ ((points k ≡ key) ⊎ Contains (map points keys) key)
        → Contains (map points (match_ordering o (k ∷ x ∷ keys) (x ∷ keys) (x ∷ insert_key order keys k))) key ↔ ((points k ≡ key) ⊎ Contains (map points (x ∷ keys)) key)
    cases Less e rest = contained_first (points k) (map points (x ∷ keys)) key
    cases Equal e rest = (
      (λ h. inr h),
      λ h. ⊎_elim (λ is. (contained_first (points x) (map points keys) key).1 (inl (sym (same k x e) ∙ is))) (λ there. there) h,
    )
    cases Greater e rest =
        let old = contained_first (points x) (map points keys) key in
        let new = contained_first (points x) (map points (insert_key order keys k)) key in (
          (λ h. ⊎_elim (λ is. inr (old.1 (inl is))) (λ later. ⊎_elim (λ is. inl is) (λ there. inr (old.1 (inr there))) (rest.0 later)) (new.0 h)),
          λ h. ⊎_elim (λ is. new.1 (inr (rest.1 (inl is)))) (λ there. ⊎_elim (λ is. new.1 (inl is)) (λ later. new.1 (inr (rest.1 (inr later)))) (old.0 there)) h,
        )

-- ---- Targets

-- the targets of one more relation
pub target_more : (relations : List Relation) (r : Relation) (key : List ℕ) → IsTarget (relations ++ r ∷ []) key ↔ ((r.target.points ≡ key) ⊎ IsTarget relations key)
target_more [] r key = (λ h. h, λ h. h)
target_more (s ∷ relations) r key =
    let rest = target_more relations r key in (
      (λ h. ⊎_elim (λ is. inr (inl is)) (λ later. ⊎_elim (λ own. inl own) (λ old. inr (inr old)) (rest.0 later)) h),
      λ h. ⊎_elim (λ own. inr (rest.1 (inl own))) (λ old. ⊎_elim (λ is. inl is) (λ later. inr (rest.1 (inr later))) old) h,
    )

-- the keys of a set are the targets, with one more relation
pub targets_more : {V : Type 0} (points : V → List ℕ) (order : V → V → Ordering) → ((a b : V) → order a b ≡ Equal → points a ≡ points b)
    → (keys now : List V) (k : V) (relations : List Relation) (i : ℕ) (r : Relation) → i < length relations → r ≡ get_or relations i r
    → points k ≡ r.target.points
    → now ≡ insert_key order keys k → AreTargetsOf (take i relations) (map points keys) → AreTargetsOf (take (i + 1) relations) (map points now)
targets_more points order same keys now k relations i r within there is added so_far key =
    let inserted = inserted_iff points order same keys k key in
    let more : take (i + 1) relations ≡ take i relations ++ r ∷ [] = taken_more relations i r within there in
    let targets = target_more (take i relations) r key in
    subst (λ (rs : List Relation). Contains (map points now) key ↔ IsTarget rs key) (sym more)
    (subst (λ (ks : List _). Contains (map points ks) key ↔ IsTarget (take i relations ++ r ∷ []) key) (sym added) (
      (λ h. targets.1 (⊎_elim (λ own. inl (sym is ∙ own)) (λ old. inr ((so_far key).0 old)) (inserted.0 h))),
      λ h. inserted.1 (⊎_elim (λ own. inl (is ∙ own)) (λ old. inr ((so_far key).1 old)) (targets.0 h)),
    ))
