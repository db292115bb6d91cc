-- Code points that both data files and the ranges of both headers agree on have the same classes and implicit weights.
use Rattle.std.proofs.Common.{◌≡◌, ℕ, List, [], ◌∷◌, Option, Some, None, cond, map, refl, ap₂}
use Rattle.std.specs.List.{AllByRecursion}
use Rattle.uca_weights.specs.declared.Element.{Element}
use Rattle.uca_values.specs.declared.ImplicitRange.{ImplicitRange}
use Rattle.uca_values.specs.Content.{Properties}
use Rattle.uca_values.specs.Implicit.{lead_of, block_pair, unlisted_pair, pair_by_lead, implicit}
use Rattle.uca_changes.specs.Points.{range_pair, IsSamePoint}

-- the classes of code points
pub same_classes : (old new : Properties) (points : List ℕ) → AllByRecursion (λ c. old.class c ≡ new.class c) points → map old.class points ≡ map new.class points
same_classes old new [] same = refl
same_classes old new (c ∷ points) same = ap₂ (λ k ks. k ∷ ks) same.0 (same_classes old new points same.1)

-- the pair of a code point outside of all ranges
unlisted_same : (old new : Properties) (point : ℕ) → IsSamePoint old new point → unlisted_pair old point ≡ unlisted_pair new point
unlisted_same old new point same =
    ap₂ (λ core other. cond core (block_pair 0xFB40 point) (cond other (block_pair 0xFB80 point) (block_pair 0xFBC0 point))) same.core same.other

-- by whether a range contains it before and after the change
pair_same : (ranges others : List ImplicitRange) (a b : Option ℕ) (es fs : List Element) (point : ℕ) →
    pair_by_lead ranges a [] point ≡ pair_by_lead others b [] point → es ≡ fs → pair_by_lead ranges a es point ≡ pair_by_lead others b fs point
pair_same ranges others None None es fs point pairs rest = rest
pair_same ranges others None (Some b) es fs point pairs rest = absurd cc
pair_same ranges others (Some a) None es fs point pairs rest = absurd cc
pair_same ranges others (Some a) (Some b) es fs point pairs rest = pairs

-- its implicit weights
pub implicit_same : (ranges others : List ImplicitRange) (old new : Properties) (point : ℕ) → range_pair ranges point ≡ range_pair others point →
    IsSamePoint old new point → implicit ranges old point ≡ implicit others new point
implicit_same ranges others old new point pairs same =
    pair_same ranges others (lead_of ranges point) (lead_of others point) (unlisted_pair old point) (unlisted_pair new point) point pairs
    (unlisted_same old new point same)
