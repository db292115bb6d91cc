-- The greatest weights at levels 2 and 3 (condition 2), with one more element.
use Rattle.std.proofs.Common.{◌≡◌, ◌≢◌, ℕ, ◌<◌, max, ◌⊎◌, inl, inr, ⊎_elim, List, [], ◌∷◌, ◌++◌, ◌↔◌, arith}
use Rattle.std.specs.List.{AllByRecursion}
use Rattle.uca_weights.specs.declared.Element.{Element}
use Rattle.uca_weights.specs.Kinds.{IsPrimaryElement, IsSecondaryElement, IsTertiaryElement}
use Rattle.uca_weights.proofs.Lists.{each_push}
use Rattle.uca_check.specs.declared.wf2.GreatestWeights.{GreatestWeights}
use Rattle.uca_check.specs.Searches.{AreGreatestWeights, IsAllowed}
use Rattle.uca_check.specs.WellFormed.{IsHighSecondary, IsHighTertiary}

iff_push : {A B F : Type 0} (Q : Element → Type 0) (all : List Element) (e : Element) → A ↔ (F × AllByRecursion Q all) → B ↔ (A × Q e) → B ↔ (F × AllByRecursion Q (all ++ e ∷ []))
iff_push Q all e old new = (
  (λ b. let parts = new.0 b in let h = old.0 parts.0 in (h.0, (each_push Q all e).1 (h.1, parts.1))),
  λ h. let parts = (each_push Q all e).0 h.1 in new.1 (old.1 (h.0, parts.0), parts.1),
)

below_max : {P : Type 0} (top weight both n : ℕ) → both ≡ max top weight → P → (both < n) ↔ ((top < n) × (P → weight < n))
below_max top weight both n is p = (λ h. (omega arith, λ _. omega arith), λ h. let less = h.1 p in omega arith)

below_same : {P : Type 0} (top weight n : ℕ) → (P → ⊥) → (top < n) ↔ ((top < n) × (P → weight < n))
below_same top weight n not = (λ h. (h, λ p. absurd (not p)), λ h. h.0)

pub raised_by_primary : (all : List Element) (h : GreatestWeights) (e : Element) (s t : ℕ) → e.primary ≢ 0 → s ≡ max h.secondary e.secondary → t ≡ max h.tertiary e.tertiary → AreGreatestWeights all h → AreGreatestWeights (all ++ e ∷ []) (record { secondary = s; tertiary = t })
raised_by_primary all h e s t is ss ts old = record {
  secondary = λ n. iff_push (λ f. IsPrimaryElement f → f.secondary < n) all e (old.secondary n) (below_max h.secondary e.secondary s n ss is);
  tertiary = λ n. iff_push (λ f. IsPrimaryElement f ⊎ IsSecondaryElement f → f.tertiary < n) all e (old.tertiary n) (below_max h.tertiary e.tertiary t n ts (inl is));
}

pub raised_by_secondary : (all : List Element) (h : GreatestWeights) (e : Element) (t : ℕ) → e.primary ≡ 0 → e.secondary ≢ 0 → t ≡ max h.tertiary e.tertiary → AreGreatestWeights all h → AreGreatestWeights (all ++ e ∷ []) (record { secondary = h.secondary; tertiary = t })
raised_by_secondary all h e t none is ts old = record {
  secondary = λ n. iff_push (λ f. IsPrimaryElement f → f.secondary < n) all e (old.secondary n) (below_same h.secondary e.secondary n (λ p. p none));
  tertiary = λ n. iff_push (λ f. IsPrimaryElement f ⊎ IsSecondaryElement f → f.tertiary < n) all e (old.tertiary n) (below_max h.tertiary e.tertiary t n ts (inr (none, is)));
}

pub raised_by_none : (all : List Element) (h : GreatestWeights) (e : Element) → e.primary ≡ 0 → e.secondary ≡ 0 → AreGreatestWeights all h → AreGreatestWeights (all ++ e ∷ []) h
raised_by_none all h e none neither old = record {
  secondary = λ n. iff_push (λ f. IsPrimaryElement f → f.secondary < n) all e (old.secondary n) (below_same h.secondary e.secondary n (λ p. p none));
  tertiary = λ n. iff_push (λ f. IsPrimaryElement f ⊎ IsSecondaryElement f → f.tertiary < n) all e (old.tertiary n) (below_same h.tertiary e.tertiary n (λ p. ⊎_elim (λ (one : IsPrimaryElement e). one none) (λ (two : IsSecondaryElement e). two.1 neither) p));
}

pub allowed_iff : (all : List Element) (h : GreatestWeights) → AreGreatestWeights all h → (e : Element) → IsAllowed h e ↔ ((IsSecondaryElement e → IsHighSecondary all e.secondary) × (IsTertiaryElement e → IsHighTertiary all e.tertiary))
allowed_iff all h are e = (
  (λ a. ((λ two. (are.secondary e.secondary).0 (a.0 two)), (λ three. (are.tertiary e.tertiary).0 (a.1 three)))),
  λ a. ((λ two. (are.secondary e.secondary).1 (a.0 two)), (λ three. (are.tertiary e.tertiary).1 (a.1 three))),
)
