-- Implicit weights are pairs, whose leads and low parts have their bounds where the ranges are those of a table.
use Rattle.std.proofs.Common.{◌≡◌, ℕ, ◌+◌, ◌-◌, ◌/◌, ◌%◌, ◌<◌, ◌≤◌, leb, ◌&&◌, cond, List, [], ◌∷◌, Option, Some, None, refl, arith}
use Rattle.std.proofs.lemmas.Bool.{cond_both}
use Rattle.uca_weights.specs.declared.Element.{Element}
use Rattle.uca_values.specs.declared.ImplicitRange.{ImplicitRange}
use Rattle.uca_values.specs.Content.{Properties, AreImplicitRanges}
use Rattle.uca_values.specs.Implicit.{lead_of, base_of, implicit_pair, block_pair, unlisted_pair, pair_by_lead, implicit}
use Rattle.uca_values.proofs.Leads.{near_base}

-- the lead of a range is one of those for implicit weights
lead_bounds : (ranges : List ImplicitRange) (point lead : ℕ) → AreImplicitRanges ranges → lead_of ranges point ≡ Some lead
    → (0xFB00 ≤ lead) × (lead ≤ 0xFB3F)
lead_bounds [] point lead are found = cc
lead_bounds (r ∷ ranges) point lead are at_point =
    cond_both (leb r.first point && leb point r.last) (Some r.lead) (lead_of ranges point) (λ o. o ≡ Some lead → (0xFB00 ≤ lead) × (lead ≤ 0xFB3F))
    (λ here found. let same : r.lead ≡ lead = cc in (omega (arith, are.0.low), omega (arith, are.0.high)))
    (λ other found. lead_bounds ranges point lead are.2 found)
    at_point

-- the bounds of a number's pair
pub record IsPairOf (point lead low : ℕ) : Type 0 where
  pub high : 0xFB00 ≤ lead
  pub within : point < 0x11_0000 → lead ≤ 0xFBFF
  pub near : low < 0x8000

-- What is true of each pair is true of the implicit weights of each number. If the ranges are those of a table, only
-- pairs in these bounds have to be considered.
pub of_pair : (P : List Element → Type 0) (ranges : List ImplicitRange) (properties : Properties) (point : ℕ)
    → ((lead low : ℕ) → (AreImplicitRanges ranges → IsPairOf point lead low) → P (implicit_pair lead low))
    → P (implicit ranges properties point)
of_pair P ranges properties point pair = by_lead (lead_of ranges point) refl
  where
    -- the pair of a block
    block : (lead : ℕ) → 0xFB40 ≤ lead → lead ≤ 0xFBC0 → P (block_pair lead point)
    block lead low high =
        pair (lead + point / 0x8000) (point % 0x8000)
        (λ _. record { high = omega (arith, low); within = λ fits. omega (arith, high, fits); near = omega arith })

    -- the pair of a number that no range contains
    unlisted : P (unlisted_pair properties point)
    unlisted =
        cond_both (properties.is_core point) (block_pair 0xFB40 point) (cond (properties.is_other point) (block_pair 0xFB80 point) (block_pair 0xFBC0 point)) P
        (λ core. block 0xFB40 (omega arith) (omega arith))
        (λ not_core. cond_both (properties.is_other point) (block_pair 0xFB80 point) (block_pair 0xFBC0 point) P
        (λ other. block 0xFB80 (omega arith) (omega arith))
        (λ not_other. block 0xFBC0 (omega arith) (omega arith)))

    -- by the range that contains the number
    by_lead : (lead : Option ℕ) → lead_of ranges point ≡ lead → P (pair_by_lead ranges lead (unlisted_pair properties point) point)
    by_lead None found = unlisted
    by_lead (Some lead) found =
        pair lead (point - base_of ranges lead point) (λ are.
        let bounds = lead_bounds ranges point lead are found in
        let near = near_base ranges are lead point found in
        record { high = bounds.0; within = λ _. omega (arith, bounds.1); near = omega (arith, near) })

-- so what is true of each pair with a lead for implicit weights is true of all implicit weights of code points
pub each_pair : (P : List Element → Type 0)
    → ((lead low : ℕ) → 0xFB00 ≤ lead → lead ≤ 0xFBFF → low < 0x8000 → P (implicit_pair lead low))
    → (ranges : List ImplicitRange) (properties : Properties) → AreImplicitRanges ranges → (point : ℕ) → point < 0x11_0000
    → P (implicit ranges properties point)
each_pair P pair ranges properties are point within =
    of_pair P ranges properties point (λ lead low bounds. let is = bounds are in pair lead low is.high (is.within within) is.near)
