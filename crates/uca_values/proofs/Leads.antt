-- Why the weights of a code point in a range of the header do not overflow.
use Rattle.std.proofs.Common.{◌≡◌, ℕ, ◌+◌, ◌<◌, ◌≤◌, Bool, true, leb, eqb, min, ◌&&◌, List, [], ◌∷◌, Some, sym, ◌∙◌, arith}
use Rattle.std.specs.List.{AllByRecursion}
use Rattle.std.proofs.lemmas.Bool.Decides.{nat_tests}
use Rattle.std.proofs.lemmas.Bool.{eqb-true}
use Rattle.uca_weights.proofs.Tests.{by_cases}
use Rattle.uca_values.specs.declared.ImplicitRange.{ImplicitRange}
use Rattle.uca_values.specs.Content.{Agree, AreImplicitRanges}
use Rattle.uca_values.specs.Implicit.{lead_of, base_of}

abbrev is_inside : ImplicitRange → ℕ → Bool
is_inside r point = leb r.first point && leb point r.last

inside_last : (r : ImplicitRange) (point : ℕ) → is_inside r point ≡ true → point ≤ r.last
inside_last r point h = grind (arith, nat_tests)

-- the code point lies near the ranges with the lead
abbrev Near : ℕ → ℕ → ImplicitRange → Type 0
Near lead point s = s.lead ≡ lead → point < s.first + 0x8000

-- the range that contains the code point is near those after it, and near one before it
near_after : (r : ImplicitRange) (lead point : ℕ) → r.lead ≡ lead → point ≤ r.last → (xs : List ImplicitRange) → AllByRecursion (Agree r) xs → AllByRecursion (Near lead point) xs
near_after r lead point e low [] h = tt
near_after r lead point e low (s ∷ xs) h = (λ same. omega (arith, (h.0.near (e ∙ sym same)).0), near_after r lead point e low xs h.1)

near_before : (r : ImplicitRange) (lead point : ℕ) (xs : List ImplicitRange) → AllByRecursion (Agree r) xs → lead_of xs point ≡ Some lead → Near lead point r
near_before r lead point [] h found = cc
near_before r lead point (s ∷ xs) h found =
    by_cases (is_inside s point)
    (λ e same.
    let is : Some s.lead ≡ Some lead = rw e at found in
    let lead_is : s.lead ≡ lead = cc in
    omega (arith, (h.0.near (same ∙ sym lead_is)).1, inside_last s point e))
    (λ e. near_before r lead point xs h.1 (rw e at found))

near_all : (lead point : ℕ) (xs : List ImplicitRange) → AreImplicitRanges xs → lead_of xs point ≡ Some lead → AllByRecursion (Near lead point) xs
near_all lead point [] h found = tt
near_all lead point (r ∷ xs) h found =
    by_cases (is_inside r point)
    (λ e.
    let is : Some r.lead ≡ Some lead = rw e at found in
    let lead_is : r.lead ≡ lead = cc in
    let low = inside_last r point e in
    (λ _. omega (arith, h.0.short, low), near_after r lead point lead_is low xs h.1))
    (λ e.
    let later : lead_of xs point ≡ Some lead = rw e at found in
    (near_before r lead point xs h.1 later, near_all lead point xs h.2 later))

pub base_at_most : (xs : List ImplicitRange) (lead least : ℕ) → base_of xs lead least ≤ least
base_at_most [] lead least = omega arith
base_at_most (r ∷ xs) lead least =
    by_cases (eqb r.lead lead)
    (λ e. rw e (omega (arith, base_at_most xs lead (min r.first least))))
    (λ e. rw e (base_at_most xs lead least))

base_near : (xs : List ImplicitRange) (lead point least : ℕ) → AllByRecursion (Near lead point) xs → point < least + 0x8000 → point < base_of xs lead least + 0x8000
base_near [] lead point least h low = low
base_near (r ∷ xs) lead point least h low =
    by_cases (eqb r.lead lead)
    (λ e. let near = h.0 (eqb-true _ _ e) in rw e (base_near xs lead point (min r.first least) h.1 (omega arith)))
    (λ e. rw e (base_near xs lead point least h.1 low))

-- the code point is less than 8000 above the base of its lead
pub near_base : (xs : List ImplicitRange) → AreImplicitRanges xs → (lead point : ℕ) → lead_of xs point ≡ Some lead → point < base_of xs lead point + 0x8000
near_base xs h lead point found = base_near xs lead point point (near_all lead point xs h found) (omega arith)
