-- The order of the weights of base elements in the lists that plans begin with, and on which side of the variable ones
-- a primary is.
use Rattle.std.proofs.Common.{◌≡◌, ◌⊎◌, inl, inr, ℕ, ◌<◌, ◌≤◌, Bool, true, false, ◌&&◌, List, [], ◌∷◌, map, nat_le, refl, sym, ap, subst, arith}
use Rattle.std.proofs.lemmas.Bool.{cases_lt, or_parts}
use Rattle.std.proofs.lemmas.Bool.Decides.{nat_tests}
use Rattle.std.specs.List.{AllByRecursion, list_any}
use Rattle.uca_weights.specs.declared.Element.{Element}
use Rattle.uca_weights.specs.declared.Level.{Level}
use Rattle.uca_weights.specs.declared.Level.TheVariants.{One}
use Rattle.uca_check.specs.WellFormed.{IsVariable}
use Rattle.uca_plans.specs.declared.drafts.DraftWeight.TheVariants.{Base}
use Rattle.uca_plans.specs.Lists.{base_weights}
use Rattle.uca_plans.specs.ListLaws.{IsRising, IsAmong, StandsBefore}
use Rattle.uca_plans.specs.Plans.{is_among_variables}
use Rattle.uca_plans.proofs.BaseWeightLemmas.{bases_rising}
use Rattle.uca_plans.proofs.GoodLists.{base_among}
use Rattle.uca_plans.proofs.ListMembers.{of_each}
use Rattle.uca_plans.proofs.PlanHolds.{weight_there}
use Rattle.uca_acceptance.proofs.WellDrafts.{IsBelow}

-- ---- Members

-- where none passes a test, each fails it
pub each_fails : {A : Type 0} (test : A → Bool) (xs : List A) → list_any test xs ≡ false → AllByRecursion (λ x. test x ≡ false) xs
each_fails test [] none = tt
each_fails test (x ∷ xs) none = let both = or_parts (test x) (list_any test xs) none in (both.0, each_fails test xs both.1)

-- ---- Weights in the lists

-- of rising weights the lesser is before the greater
rising_stands : (ws : List ℕ) (v w : ℕ) → IsRising ws → IsAmong ws v → IsAmong ws w → v < w → StandsBefore (map Base ws) (Base v) (Base w)
rising_stands [] v w rising first second less = absurd first
rising_stands (u ∷ ws) v w rising (inl here) (inl also) less = absurd (omega (arith, here, also, less))
rising_stands (u ∷ ws) v w rising (inl here) (inr there) less = inl (ap Base here, base_among ws w there)
rising_stands (u ∷ ws) v w rising (inr there) (inl here) less =
    let above = of_each (λ x. u < x) ws v rising.0 there in absurd (omega (arith, here, above, less))
rising_stands (u ∷ ws) v w rising (inr there) (inr also) less = inr (rising_stands ws v w rising.1 there also less)

-- so does the lesser of two base weights of a level
pub base_stands : (level : Level) (es : List Element) (v w : ℕ) → IsAmong (base_weights level es) v → IsAmong (base_weights level es) w → v < w
    → StandsBefore (map Base (base_weights level es)) (Base v) (Base w)
base_stands level es v w first second less = rising_stands (base_weights level es) v w (bases_rising level es) first second less

-- ---- Primaries

-- a primary from 8000 up, or one of the list
abbrev pub HasPlace : List Element → ℕ → Type 0
HasPlace es p = (0x8000 ≤ p) ⊎ IsAmong (base_weights One es) p

-- an element with a primary has a position
pub place_of : (es : List Element) (e : Element) → IsAmong es e → (e.primary ≡ 0 → ⊥) → HasPlace es e.primary
place_of es e among some = elim (cases_lt e.primary 0x8000) [
  | inl low ↦ inr (weight_there One es e among (omega (arith, some)) (omega (arith, low)))
  | inr high ↦ inl high
]

-- the lesser of two such primaries is below the greater
pub below_by_less : (es : List Element) (p q : ℕ) → HasPlace es p → HasPlace es q → p < q
    → IsBelow (map Base (base_weights One es)) (Base p) (Base q)
below_by_less es p q (inl high) second less = inr (inr (high, less))
below_by_less es p q (inr there) (inl high) less = inr (inl (base_among (base_weights One es) p there, high))
below_by_less es p q (inr there) (inr also) less = inl (base_stands One es p q there also less)

-- ---- Sides

-- a primary is less than those of all variable elements, or greater than them all
abbrev pub HasSide : List Element → ℕ → Type 0
HasSide es p =
    ((v : Element) → IsAmong es v → IsVariable v → p < v.primary)
    ⊎ ((v : Element) → IsAmong es v → IsVariable v → v.primary < p)

-- a variable element whose primary is not greater, or none
some_not_above : (es : List Element) (p : ℕ)
    → ((v : Element) × IsAmong es v × IsVariable v × (v.primary ≤ p)) ⊎ ((v : Element) → IsAmong es v → IsVariable v → p < v.primary)
some_not_above [] p = inr (λ v among. absurd among)
some_not_above (e ∷ es) p = elim (some_not_above es p) [
  | inl one ↦ inl (one.0, inr one.1, one.2, one.3)
  | inr none ↦ go e.mark refl (λ v among. none v among)
]
  where
    -- by the mark of the first
    go : (b : Bool) → e.mark ≡ b → ((v : Element) → IsAmong es v → IsVariable v → p < v.primary)
        → ((v : Element) × IsAmong (e ∷ es) v × IsVariable v × (v.primary ≤ p)) ⊎ ((v : Element) → IsAmong (e ∷ es) v → IsVariable v → p < v.primary)
    go true marked none = elim (cases_lt p e.primary) [
      | inl less ↦ inr (λ v among variable. elim among [
        | inl here ↦ subst (λ x. p < x.primary) here less
        | inr there ↦ none v there variable
      ])
      | inr not ↦ inl (e, inl refl, marked, not)
    ]
    go false marked none = inr (λ v among variable. elim among [
      | inl here ↦ let both : e.mark ≡ true = subst (λ x. x.mark ≡ true) (sym here) variable in absurd (cc)
      | inr there ↦ none v there variable
    ])

-- a primary that lies between no two variable elements has a side
pub side_of : (es : List Element) (p : ℕ)
    → ((v w : Element) → IsAmong es v → IsAmong es w → IsVariable v → IsVariable w → v.primary ≤ p → p ≤ w.primary → ⊥) → HasSide es p
side_of es p none = elim (some_not_above es p) [
  | inr above ↦ inl above
  | inl one ↦ inr (λ w among variable. elim (cases_lt w.primary p) [
    | inl less ↦ less
    | inr not ↦ absurd (none one.0 w one.1 among one.2 variable one.3 not)
  ])
]

-- and so has one that the test finds outside
pub side_tested : (es : List Element) (p : ℕ) → is_among_variables es (Base p) ≡ false → HasSide es p
side_tested es p outside =
    go (list_any (λ v. v.mark && nat_le v.primary p) es) refl (list_any (λ v. v.mark && nat_le p v.primary) es) refl outside
  where
    -- what fails the first test is greater
    above : (v : Element) → IsVariable v → (v.mark && nat_le v.primary p) ≡ false → p < v.primary
    above v variable failed = let test : (true && nat_le v.primary p) ≡ false = rw variable at failed in grind (arith, nat_tests)

    -- what fails the second test is less
    below : (v : Element) → IsVariable v → (v.mark && nat_le p v.primary) ≡ false → v.primary < p
    below v variable failed = let test : (true && nat_le p v.primary) ≡ false = rw variable at failed in grind (arith, nat_tests)

    -- one of the two tests fails
    go : (a : Bool) → list_any (λ v. v.mark && nat_le v.primary p) es ≡ a → (b : Bool) → list_any (λ v. v.mark && nat_le p v.primary) es ≡ b
        → (a && b) ≡ false → HasSide es p
    go false none b any both = inl (λ v among variable.
        above v variable (of_each (λ x. (x.mark && nat_le x.primary p) ≡ false) es v (each_fails (λ x. x.mark && nat_le x.primary p) es none) among))
    go true some false none both = inr (λ v among variable.
        below v variable (of_each (λ x. (x.mark && nat_le p x.primary) ≡ false) es v (each_fails (λ x. x.mark && nat_le p x.primary) es none) among))
    go true some true any both = absurd (cc)
