-- Between two borders of some ranges, what the ranges say of code points stays.
use Rattle.std.proofs.Common.{◌≡◌, ◌≢◌, ◌⊎◌, ⊎_elim, inl, inr, ℕ, suc, ◌+◌, ◌-◌, ◌≤◌, min, true, eqb, cond, ◌||◌, List, [], ◌∷◌, Option, Some, None, Contains, refl, sym, ap, ap₂, subst, ◌∙◌, arith}
use Rattle.std.specs.Char.{IsScalar}
use Rattle.std.specs.List.{AllByRecursion}
use Rattle.std.proofs.lemmas.Bool.{cases_eq, cases_lt}
use Rattle.std.proofs.lemmas.Bool.Decides.{nat_tests}
use Rattle.uca_weights.specs.declared.Element.{Element}
use Rattle.uca_weights.proofs.Tests.{by_cases}
use Rattle.uca_values.specs.declared.ClassRange.{ClassRange}
use Rattle.uca_values.specs.declared.CodePointRange.{CodePointRange}
use Rattle.uca_values.specs.declared.ImplicitRange.{ImplicitRange}
use Rattle.uca_values.specs.Implicit.{lead_of, base_of, implicit_pair, pair_by_lead}
use Rattle.uca_values.specs.Ranges.{is_between, is_within, class_in}
use Rattle.uca_values.proofs.Leads.{base_at_most}
use Rattle.uca_editions.specs.inside.Borders.{HasBorders}
use Rattle.uca_changes.specs.Points.{IsSamePair}

-- the code point is no border of the ranges
abbrev pub HasNoBorder : {X : Type 0} → (X → ℕ) → (X → ℕ) → ℕ → List X → Type 0
HasNoBorder first last point ranges = AllByRecursion (λ r. (first r ≢ point) × (last r + 1 ≢ point)) ranges

-- a code point is on the list, or it is no border
pub border_or_none : {X : Type 0} (first last : X → ℕ) (ranges : List X) (points : List ℕ) (point : ℕ) → IsScalar point → HasBorders first last points ranges
    → Contains points point ⊎ HasNoBorder first last point ranges
border_or_none first last [] points point scalar has = inr tt
border_or_none first last (r ∷ ranges) points point scalar has =
    ⊎_elim
    (λ begins. inl (subst (Contains points) begins has.0.0))
    (λ other. ⊎_elim
    (λ ends. inl (subst (Contains points) ends (has.0.1 (subst IsScalar (sym ends) scalar))))
    (λ none. ⊎_elim (λ there. inl there) (λ rest. inr ((other, none), rest)) (border_or_none first last ranges points point scalar has.1))
    (cases_eq (last r + 1) point))
    (cases_eq (first r) point)

-- ---- One range

between_step : (first last point : ℕ) → first ≢ suc point → last + 1 ≢ suc point → is_between first last (suc point) ≡ is_between first last point
between_step first last point begins ends = grind (arith, nat_tests)

-- ---- What the ranges say

pub within_step : (ranges : List CodePointRange) (point : ℕ) → HasNoBorder (λ r. r.first) (λ r. r.last) (suc point) ranges → is_within ranges (suc point) ≡ is_within ranges point
within_step [] point none = refl
within_step (r ∷ ranges) point none = ap₂ (λ a b. a || b) (between_step r.first r.last point none.0.0 none.0.1) (within_step ranges point none.1)

pub class_step : (ranges : List ClassRange) (point : ℕ) → HasNoBorder (λ r. r.first) (λ r. r.last) (suc point) ranges → class_in ranges (suc point) ≡ class_in ranges point
class_step [] point none = refl
class_step (r ∷ ranges) point none = ap₂ (λ a b. cond a r.class b) (between_step r.first r.last point none.0.0 none.0.1) (class_step ranges point none.1)

lead_step : (ranges : List ImplicitRange) (point : ℕ) → HasNoBorder (λ r. r.first) (λ r. r.last) (suc point) ranges → lead_of ranges (suc point) ≡ lead_of ranges point
lead_step [] point none = refl
lead_step (r ∷ ranges) point none = ap₂ (λ a b. cond a (Some r.lead) b) (between_step r.first r.last point none.0.0 none.0.1) (lead_step ranges point none.1)

-- ---- Implicit weights

inside_first : (r : ImplicitRange) (point : ℕ) → is_between r.first r.last point ≡ true → r.first ≤ point
inside_first r point h = grind (arith, nat_tests)

-- the base of a lead is the same for greater code points, where a range with the lead contains the code point
base_same : (ranges : List ImplicitRange) (lead point a b : ℕ) → point ≤ a → a ≤ b → lead_of ranges point ≡ Some lead → base_of ranges lead a ≡ base_of ranges lead b
base_same [] lead point a b low high found = cc
base_same (r ∷ ranges) lead point a b low high found =
    by_cases (is_between r.first r.last point)
    (λ here.
    let is : Some r.lead ≡ Some lead = rw here at found in
    let same : r.lead ≡ lead = cc in
    let own : eqb r.lead lead ≡ true = grind (arith, nat_tests) in
    let begins = inside_first r point here in
    let equal : min r.first a ≡ min r.first b = omega arith in
    rw own (ap (base_of ranges lead) equal))
    (λ other.
    let later : lead_of ranges point ≡ Some lead = rw other at found in
    by_cases (eqb r.lead lead)
    (λ own. rw own (⊎_elim
    (λ below. let equal : min r.first a ≡ min r.first b = omega (arith, below) in ap (base_of ranges lead) equal)
    (λ above. base_same ranges lead point (min r.first a) (min r.first b) above (omega arith) later)
    (cases_lt (min r.first a) point)))
    (λ not. rw not (base_same ranges lead point a b low high later)))

-- the primaries of a pair
abbrev pub first_primary : List Element → ℕ
first_primary [] = 0
first_primary (e ∷ es) = e.primary

abbrev second_primary : List Element → ℕ
second_primary [] = 0
second_primary (e ∷ es) = first_primary es

-- the pairs of two headers stay the same, or other
pair_step : (old new : List ImplicitRange) (point : ℕ) (a b : Option ℕ) → lead_of old point ≡ a → lead_of new point ≡ b
    → pair_by_lead old a [] point ≡ pair_by_lead new b [] point → pair_by_lead old a [] (suc point) ≡ pair_by_lead new b [] (suc point)
pair_step old new point None None old_lead new_lead same = refl
pair_step old new point None (Some b) old_lead new_lead same = absurd cc
pair_step old new point (Some a) None old_lead new_lead same = absurd cc
pair_step old new point (Some a) (Some b) old_lead new_lead same =
    let old_base : base_of old a point ≡ base_of old a (suc point) = base_same old a point point (suc point) (omega arith) (omega arith) old_lead in
    let new_base : base_of new b point ≡ base_of new b (suc point) = base_same new b point point (suc point) (omega arith) (omega arith) new_lead in
    let leads : a ≡ b = ap first_primary same in
    let lows : 0x8000 + (point - base_of old a point) ≡ 0x8000 + (point - base_of new b point) = ap second_primary same in
    let low : suc point - base_of old a (suc point) ≡ suc point - base_of new b (suc point) =
    omega (arith, old_base, new_base, lows, base_at_most old a point, base_at_most new b point) in
    ap₂ (λ lead n. implicit_pair lead n) leads low

pub pairs_step : (old new : List ImplicitRange) (point : ℕ) → HasNoBorder (λ r. r.first) (λ r. r.last) (suc point) old
    → HasNoBorder (λ r. r.first) (λ r. r.last) (suc point) new → IsSamePair old new point → IsSamePair old new (suc point)
pairs_step old new point no_old no_new same =
    ap (λ lead. pair_by_lead old lead [] (suc point)) (lead_step old point no_old)
    ∙ pair_step old new point (lead_of old point) (lead_of new point) refl refl same
    ∙ sym (ap (λ lead. pair_by_lead new lead [] (suc point)) (lead_step new point no_new))
