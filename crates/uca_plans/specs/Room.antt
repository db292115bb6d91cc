-- How many weights a level has to number: which new weights go below the fixed weight, and which above it, is seen from the base
-- weights and the insertions alone. So is whether rules are rejected for lack of room, and at which level.
use Rattle.std.specs.Prelude.{◌≡◌, ◌⊎◌, ◌↔◌, ℕ, ◌+◌, ◌-◌, ◌<◌, ◌≤◌, Bool, true, ◌&&◌, ◌||◌, List, [], ◌∷◌, length, nat_lt, if◌then◌else◌, Ok}
use Rattle.std.specs.List.{filter, list_any}
use Rattle.uca_weights.specs.declared.Element.{Element}
use Rattle.uca_weights.specs.declared.Level.{Level}
use Rattle.uca_weights.specs.Levels.{level_number}
use Rattle.uca_values.specs.Content.{TableContent, Properties, IsTable}
use Rattle.uca_check.specs.WellFormed.{elements_of, IsWellFormed}
use Rattle.uca_relations.specs.declared.Relation.{Relation}
use Rattle.uca_relations.specs.Relations.{AreRules}
use Rattle.uca_plans.specs.declared.drafts.DraftWeight.{DraftWeight}
use Rattle.uca_plans.specs.declared.drafts.DraftWeight.TheVariants.{Base, New}
use Rattle.uca_plans.specs.declared.drafts.Segment.{Segment}
use Rattle.uca_plans.specs.declared.faults.TailorKind.TheVariants as kinds
use Rattle.uca_plans.specs.declared.faults.TailorFault.{TailorFault}
use Rattle.uca_plans.specs.Lists.{fixed_weight, low_segment, high_segment, base_weights, same_weight, same_level, Insertion, members_of}
use Rattle.uca_plans.specs.Lists.{low_members, high_members, level_has_room}
use Rattle.uca_plans.specs.Plans.{Basis, Drafting, begun, with_relations}
use Rattle.uca_plans.specs.Tailors.{basis_of, TailorRefuses}

-- ---- Sides

-- whether a weight is below the fixed one: a base weight that is less, or a new weight that went low
abbrev pub is_below_fixed : Level → List DraftWeight → DraftWeight → Bool
is_below_fixed level lows (Base w) = nat_lt w (fixed_weight level)
is_below_fixed level lows (New n) = list_any (same_weight (New n)) lows

-- a new weight goes low where its anchor's is low, or is the fixed one and the new weight goes before it
abbrev pub goes_low : Level → List DraftWeight → Insertion → Bool
goes_low level lows i = is_below_fixed level lows i.anchor || (same_weight i.anchor (Base (fixed_weight level)) && i.before)

-- how many insertions of the level go low, and how many do not, after new weights that went low
abbrev pub low_count : Level → List DraftWeight → List Insertion → ℕ
low_count level lows [] = 0
low_count level lows (i ∷ insertions) =
    if same_level i.level level then
    (if goes_low level lows i then low_count level (i.new ∷ lows) insertions + 1 else low_count level lows insertions)
    else low_count level lows insertions

abbrev pub high_count : Level → List DraftWeight → List Insertion → ℕ
high_count level lows [] = 0
high_count level lows (i ∷ insertions) =
    if same_level i.level level then
    (if goes_low level lows i then high_count level (i.new ∷ lows) insertions else high_count level lows insertions + 1)
    else high_count level lows insertions

-- ---- Counts

-- how many weights are below the fixed one: those of the base and the new ones that go low
abbrev pub low_total : Level → List Element → List Insertion → ℕ
low_total level es insertions = length (filter (λ w. nat_lt w (fixed_weight level)) (base_weights level es)) + low_count level [] insertions

-- and how many above it
abbrev pub high_total : Level → List Element → List Insertion → ℕ
high_total level es insertions = length (filter (λ w. nat_lt (fixed_weight level) w) (base_weights level es)) + high_count level [] insertions

-- how many positions a segment has
abbrev pub places : Segment → ℕ
places segment = segment.top - segment.below

-- on neither side are there more weights than positions
abbrev pub HasRoom : Level → List Element → List Insertion → Type 0
HasRoom level es insertions =
    (low_total level es insertions ≤ places (low_segment level)) × (high_total level es insertions ≤ places (high_segment level))

-- The members of each segment are as many as the base weights on its side and the new weights that go there. The level
-- has room exactly if neither number is greater than the number of the segment's positions.
pub record IsCounted (level : Level) (es : List Element) (insertions : List Insertion) : Type 0 where
  pub low : length (low_members level (members_of level es insertions)) ≡ low_total level es insertions
  pub high : length (high_members level (members_of level es insertions)) ≡ high_total level es insertions
  pub room : level_has_room level (members_of level es insertions) ≡ true ↔ HasRoom level es insertions

-- over a well-formed base this is so at each level, if no relation is rejected
abbrev pub RoomIsCounted : Type 0
RoomIsCounted = (base : TableContent) (properties : Properties) (relations : List Relation) (final : Drafting) →
    IsTable base → IsWellFormed properties.class base.rows → AreRules relations →
    with_relations (basis_of base properties) 0 relations (begun (basis_of base properties)) ≡ Ok final →
    (level : Level) → IsCounted level (elements_of base.rows) final.insertions

-- ---- No room

-- on one side there are more weights than positions
abbrev pub LacksRoom : Level → List Element → List Insertion → Type 0
LacksRoom level es insertions =
    (places (low_segment level) < low_total level es insertions) ⊎ (places (high_segment level) < high_total level es insertions)

-- No relation is rejected. With the new weights of all of them this level lacks room, and each lower one has room.
pub record IsLowestWithoutRoom (basis : Basis) (relations : List Relation) (level : Level) : Type 0 where
  pub final : Drafting
  pub drafted : with_relations basis 0 relations (begun basis) ≡ Ok final
  pub lacks : LacksRoom level (elements_of basis.base) final.insertions
  pub lower : (other : Level) → level_number other < level_number level → HasRoom other (elements_of basis.base) final.insertions

-- Over a well-formed base an error that names the room of a level is a true one exactly if this is so. It names no relation.
abbrev pub NoRoomIsCounted : Type 0
NoRoomIsCounted = (base : TableContent) (properties : Properties) (relations : List Relation) (fault : TailorFault) (level : Level) →
    IsTable base → IsWellFormed properties.class base.rows → AreRules relations → fault.kind ≡ kinds.NoRoom level →
    TailorRefuses base properties relations fault
    ↔ ((fault.relation ≡ 0) × IsLowestWithoutRoom (basis_of base properties) relations level)
