-- Implicit weights (UTS #10, section 10.1.3): the two elements of a code point that no row lists.
use Rattle.std.specs.Prelude.{ℕ, ◌+◌, ◌-◌, ◌/◌, ◌%◌, List, [], ◌∷◌, false, ◌&&◌, nat_le, nat_eq, if◌then◌else◌, min, Option, Some, None}
use Rattle.uca_weights.specs.declared.Element.{Element}
use Rattle.uca_values.specs.declared.ImplicitRange.{ImplicitRange}
use Rattle.uca_values.specs.Content.{Properties}

-- the lead of the range that contains the code point
abbrev pub lead_of : List ImplicitRange → ℕ → Option ℕ
lead_of [] point = None
lead_of (r ∷ ranges) point = if nat_le r.first point && nat_le point r.last then Some r.lead else lead_of ranges point

-- the least first code point of the ranges with a lead, or `least` if that is less
abbrev pub base_of : List ImplicitRange → ℕ → ℕ → ℕ
base_of [] lead least = least
base_of (r ∷ ranges) lead least = if nat_eq r.lead lead then base_of ranges lead (min r.first least) else base_of ranges lead least

-- `[.AAAA.0020.0002][.BBBB.0000.0000]`, where the high bit of BBBB is set
abbrev pub implicit_pair : ℕ → ℕ → List Element
implicit_pair lead low =
    record { primary = lead; secondary = 0x20; tertiary = 2; mark = false } ∷
    record { primary = 0x8000 + low; secondary = 0; tertiary = 0; mark = false } ∷ []

-- by the block of 8000 code points that the code point is in
abbrev pub block_pair : ℕ → ℕ → List Element
block_pair lead point = implicit_pair (lead + point / 0x8000) (point % 0x8000)

-- core Han, other Han, and any other
abbrev pub unlisted_pair : Properties → ℕ → List Element
unlisted_pair properties point =
    if properties.is_core point then block_pair 0xFB40 point else
    if properties.is_other point then block_pair 0xFB80 point else
    block_pair 0xFBC0 point

abbrev pub pair_by_lead : List ImplicitRange → Option ℕ → List Element → ℕ → List Element
pair_by_lead ranges (Some lead) others point = implicit_pair lead (point - base_of ranges lead point)
pair_by_lead ranges None others point = others

-- the first case that applies: a range of the header, core Han, other Han, any other
abbrev pub implicit : List ImplicitRange → Properties → ℕ → List Element
implicit ranges properties point = pair_by_lead ranges (lead_of ranges point) (unlisted_pair properties point) point
