-- Implicit weights by the ranges of two headers, and by any data file besides.
use Rattle.std.proofs.Common.{◌≡◌, ◌↔◌, ℕ, ◌≤◌, Bool, leb, cond, ◌&&◌, List, [], ◌∷◌, Option, Some, None, IsTrue, refl, sym, ap, ◌∙◌, arith}
use Rattle.std.proofs.lemmas.Bool.{cond_both}
use Rattle.uca_weights.specs.declared.Element.{Element}
use Rattle.uca_values.specs.declared.ImplicitRange.{ImplicitRange}
use Rattle.uca_values.specs.Content.{Properties, AreImplicitRanges}
use Rattle.uca_values.specs.Implicit.{lead_of, block_pair, unlisted_pair, pair_by_lead, implicit}
use Rattle.uca_changes.specs.Points.{IsSamePair}
use Rattle.uca_editions.proofs.BorderSteps.{first_primary}

-- the lead of a range is one of those for implicit weights
lead_high : (ranges : List ImplicitRange) (point lead : ℕ) → AreImplicitRanges ranges → lead_of ranges point ≡ Some lead → lead ≤ 0xFB3F
lead_high [] point lead are found = cc
lead_high (r ∷ ranges) point lead are at_point =
    cond_both (leb r.first point && leb point r.last) (Some r.lead) (lead_of ranges point) (λ o. o ≡ Some lead → lead ≤ 0xFB3F)
    (λ here found. let same : r.lead ≡ lead = cc in omega (arith, are.0.high))
    (λ other found. lead_high ranges point lead are.2 found)
    at_point

-- other code points have greater leads
unlisted_high : (properties : Properties) (point : ℕ) → 0xFB40 ≤ first_primary (unlisted_pair properties point)
unlisted_high properties point =
    cond_both (properties.is_core point) (block_pair 0xFB40 point) (cond (properties.is_other point) (block_pair 0xFB80 point) (block_pair 0xFBC0 point))
    (λ es. 0xFB40 ≤ first_primary es) (λ _. omega arith)
    (λ _. cond_both (properties.is_other point) (block_pair 0xFB80 point) (block_pair 0xFBC0 point) (λ es. 0xFB40 ≤ first_primary es) (λ _. omega arith)
    (λ _. omega arith))

-- the pairs by two headers are the same exactly where the implicit weights are
by_leads : (old new : List ImplicitRange) → AreImplicitRanges old → AreImplicitRanges new → (properties : Properties) (point : ℕ) (a b : Option ℕ)
    → lead_of old point ≡ a → lead_of new point ≡ b
    → (pair_by_lead old a (unlisted_pair properties point) point ≡ pair_by_lead new b (unlisted_pair properties point) point)
    ↔ (pair_by_lead old a [] point ≡ pair_by_lead new b [] point)
by_leads old new old_are new_are properties point None None old_lead new_lead = (λ _. refl, λ _. refl)
by_leads old new old_are new_are properties point (Some a) (Some b) old_lead new_lead = (λ same. same, λ same. same)
by_leads old new old_are new_are properties point (Some a) None old_lead new_lead = (
  λ same. absurd (let lead : a ≡ first_primary (unlisted_pair properties point) = ap first_primary same in
      omega (arith, lead, lead_high old point a old_are old_lead, unlisted_high properties point)),
  λ same. absurd (cc),
)
by_leads old new old_are new_are properties point None (Some b) old_lead new_lead = (
  λ same. absurd (let lead : first_primary (unlisted_pair properties point) ≡ b = ap first_primary same in
      omega (arith, lead, lead_high new point b new_are new_lead, unlisted_high properties point)),
  λ same. absurd (cc),
)

-- a test of the implicit weights is one of the pairs
pub pairs_told : (old new : List ImplicitRange) → AreImplicitRanges old → AreImplicitRanges new → (properties : Properties) (point : ℕ) (one other : List Element)
    → one ≡ implicit old properties point → other ≡ implicit new properties point → (test : Bool) → IsTrue test ↔ (one ≡ other)
    → (IsTrue test → IsSamePair old new point) × (IsSamePair old new point → IsTrue test)
pairs_told old new old_are new_are properties point one other one_is other_is test told =
    let same = by_leads old new old_are new_are properties point (lead_of old point) (lead_of new point) refl refl in
    (λ is. same.0 (sym one_is ∙ told.0 is ∙ other_is), λ is. told.1 (one_is ∙ same.1 is ∙ sym other_is))
