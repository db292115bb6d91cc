-- The primaries of variable elements.
use Rattle.std.specs.Prelude.{◌≡◌, ℕ, Bool, false, ◌&&◌, List, nat_le, Option, Some, None}
use Rattle.std.specs.List.{list_any}
use Rattle.uca_weights.specs.declared.Element.{Element}
use Rattle.uca_plans.specs.declared.drafts.DraftWeight.{DraftWeight}
use Rattle.uca_plans.specs.declared.drafts.DraftWeight.TheVariants.{Base, New}
use Rattle.uca_tailor.specs.declared.drafts.variables.VariableSpan.{VariableSpan}

-- the weight is not below the least, and not above the greatest
abbrev pub from_least : Option VariableSpan → ℕ → Bool
from_least None w = false
from_least (Some span) w = nat_le span.least w

abbrev pub to_greatest : Option VariableSpan → ℕ → Bool
to_greatest None w = false
to_greatest (Some span) w = nat_le w span.greatest

-- so it is exactly where a variable element's primary is not above it, or not below it
abbrev pub AreBounds : Option VariableSpan → List Element → Type 0
AreBounds span es =
    (w : ℕ) → (from_least span w ≡ list_any (λ v. v.mark && nat_le v.primary w) es)
    × (to_greatest span w ≡ list_any (λ v. v.mark && nat_le w v.primary) es)

-- a weight of the base is so on both sides
abbrev pub is_within : Option VariableSpan → DraftWeight → Bool
is_within span (Base w) = from_least span w && to_greatest span w
is_within span (New _) = false
