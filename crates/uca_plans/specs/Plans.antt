-- The plan of some rules over a base table: the tailored rows, and what each weight becomes.
use Rattle.std.specs.Prelude.{ℕ, ◌+◌, Bool, false, ◌&&◌, ◌||◌, not, List, [], ◌∷◌, ◌++◌, length, map, nat_eq, nat_lt, nat_le}
use Rattle.std.specs.Prelude.{if◌then◌else◌, Option, Some, None, Result, Ok, Err}
use Rattle.std.specs.List.{list_any}
use Rattle.uca_weights.specs.declared.Element.{Element}
use Rattle.uca_weights.specs.declared.Level.{Level}
use Rattle.uca_weights.specs.declared.Level.TheVariants.{One, Two, Three}
use Rattle.uca_values.specs.declared.ImplicitRange.{ImplicitRange}
use Rattle.uca_values.specs.Content.{Entry, Properties}
use Rattle.uca_check.specs.WellFormed.{elements_of}
use Rattle.uca_text.specs.Texts.{NfdText}
use Rattle.uca_plans.specs.declared.drafts.DraftWeight.{DraftWeight}
use Rattle.uca_plans.specs.declared.drafts.DraftWeight.TheVariants.{Base, New}
use Rattle.uca_plans.specs.declared.drafts.DraftElement.{DraftElement}
use Rattle.uca_weights.specs.declared.maps.Run.{Run}
use Rattle.uca_plans.specs.declared.faults.TailorKind.{TailorKind}
use Rattle.uca_plans.specs.declared.faults.TailorKind.TheVariants as kinds
use Rattle.uca_plans.specs.declared.faults.TailorFault.{TailorFault}
use Rattle.uca_relations.specs.declared.Relation.{Relation}
use Rattle.uca_weights.specs.Levels.{level_of}
use Rattle.uca_weights.specs.PerLevel.{PerLevel}
use Rattle.uca_plans.specs.Lists.{Insertion, members_of, level_has_room, level_numbers, number_in}
use Rattle.uca_plans.specs.Drafts.{DraftRow, row_as_draft, with_row, has_key, draft_elements, draft_weight, AnchorPart, anchor_part, accepted_part, reweighted}

-- ---- Relation by relation

-- what the plan is made over
pub record Basis : Type 0 where
  pub ranges : List ImplicitRange
  pub properties : Properties
  pub base : List Entry

-- the rows so far, and where the new weights so far go
pub record Drafting : Type 0 where
  pub rows : List DraftRow
  pub insertions : List Insertion

-- a target's elements, and where its new weight goes, if it has one
pub record Drafted : Type 0 where
  pub elements : List DraftElement
  pub insertions : List Insertion

-- the elements up to the anchor's last one, which has the new weight, and then those of the expansion
abbrev pub placed_after : Level → Bool → DraftWeight → AnchorPart → List DraftElement → Drafted
placed_after level before new part expansion = record {
  elements = part.front ++ reweighted level new part.last ∷ expansion;
  insertions = record { level = level; before = before; anchor = draft_weight level part.last; new = new } ∷ [];
}

abbrev pub placed_if_accepted : Level → Bool → DraftWeight → Option AnchorPart → List DraftElement → Option Drafted
placed_if_accepted level before new None expansion = None
placed_if_accepted level before new (Some part) expansion = Some (placed_after level before new part expansion)

-- what a relation gives its target; nothing if the anchor is rejected
abbrev pub drafted_at : Option Level → Bool → DraftWeight → List DraftElement → List DraftElement → Option Drafted
drafted_at None before new anchor expansion = Some (record { elements = anchor ++ expansion; insertions = [] })
drafted_at (Some level) before new anchor expansion = placed_if_accepted level before new (accepted_part level (anchor_part level anchor)) expansion

-- the elements of an expansion, which has none where it is not there
abbrev pub draft_expansion : Basis → Drafting → Option NfdText → List DraftElement
draft_expansion basis so_far None = []
draft_expansion basis so_far (Some text) = draft_elements basis.ranges basis.properties so_far.rows text

abbrev pub drafted : Basis → Drafting → DraftWeight → Relation → Option Drafted
drafted basis so_far new r =
    drafted_at (level_of r.strength) r.before new
    (draft_elements basis.ranges basis.properties so_far.rows r.anchor)
    (draft_expansion basis so_far r.expansion)

-- ---- Why a relation is rejected

abbrev pub ends_with_non_starter : (ℕ → ℕ) → List ℕ → Bool
ends_with_non_starter class [] = false
ends_with_non_starter class (c ∷ []) = not (nat_eq (class c) 0)
ends_with_non_starter class (c ∷ d ∷ points) = ends_with_non_starter class (d ∷ points)

abbrev pub without_last : List ℕ → List ℕ
without_last [] = []
without_last (c ∷ []) = []
without_last (c ∷ d ∷ points) = c ∷ without_last (d ∷ points)

-- three or more code points that end with a non-starter, and without it are neither a base key nor an earlier target
abbrev pub needs_prefix : (ℕ → ℕ) → List DraftRow → List ℕ → Bool
needs_prefix class rows target = nat_lt 2 (length target) && (ends_with_non_starter class target && not (has_key rows (without_last target)))

-- too many elements, or one row too many
abbrev pub passes_limit : DraftRow → List DraftRow → Bool
passes_limit row rows = nat_lt 32 (length row.elements) || nat_lt 200000 (length rows)

-- from the primary of a variable element to that of another, ends included
abbrev pub is_among_variables : List Element → DraftWeight → Bool
is_among_variables base (Base w) = list_any (λ v. v.mark && nat_le v.primary w) base && list_any (λ v. v.mark && nat_le w v.primary) base
is_among_variables base (New _) = false

-- an element that implicit weights gave is among the variable ones of the base
abbrev pub holds_implicit_variable : List Element → DraftRow → Bool
holds_implicit_variable base row = list_any (λ e. e.implicit && is_among_variables base e.primary) row.elements

-- the first cause, in this order
abbrev pub accepted_row : Basis → Drafting → List ℕ → DraftRow → List Insertion → List DraftRow → Result Drafting TailorKind
accepted_row basis so_far target row insertions rows =
    if needs_prefix basis.properties.class so_far.rows target then Err kinds.NeedsPrefix else
    if passes_limit row rows then Err kinds.Limit else
    if holds_implicit_variable (elements_of basis.base) row then Err kinds.ImplicitVariable else
    Ok (record { rows = rows; insertions = so_far.insertions ++ insertions })

abbrev pub one_drafted : Basis → Drafting → List ℕ → Option Drafted → Result Drafting TailorKind
one_drafted basis so_far target None = Err kinds.Anchor
one_drafted basis so_far target (Some new) =
    let row : DraftRow = record { key = target; elements = new.elements } in
    accepted_row basis so_far target row new.insertions (with_row row so_far.rows)

-- with one more relation
abbrev pub with_relation : Basis → Drafting → ℕ → Relation → Result Drafting TailorKind
with_relation basis so_far n r = one_drafted basis so_far r.target.points (drafted basis so_far (New n) r)

abbrev pub and_then : Basis → ℕ → Result Drafting TailorKind → (Drafting → Result Drafting TailorFault) → Result Drafting TailorFault
and_then basis n (Err kind) more = Err (record { kind = kind; relation = n + 1 })
and_then basis n (Ok so_far) more = more so_far

-- with all these relations, after n others
abbrev pub with_relations : Basis → ℕ → List Relation → Drafting → Result Drafting TailorFault
with_relations basis n [] so_far = Ok so_far
with_relations basis n (r ∷ relations) so_far = and_then basis n (with_relation basis so_far n r) (λ next. with_relations basis (n + 1) relations next)

abbrev pub begun : Basis → Drafting
begun basis = record { rows = map row_as_draft basis.base; insertions = [] }

-- ---- Numbers

-- a level's list, and the number of each of its members
pub record LevelPlan : Type 0 where
  pub members : List DraftWeight
  pub numbers : List ℕ

abbrev pub level_plan : Level → List Element → List Insertion → LevelPlan
level_plan level base insertions = record { members = members_of level base insertions; numbers = level_numbers level (members_of level base insertions) }

-- a weight of a draft as a weight: no weight, and a primary from 8000 up, stay
abbrev pub numbered_weight : Level → LevelPlan → DraftWeight → ℕ
numbered_weight level plan (Base w) =
    if nat_eq w 0 then 0 else
    if stays level w then w else
    number_in plan.members plan.numbers (Base w)
  where
    stays : Level → ℕ → Bool
    stays One w = nat_le 0x8000 w
    stays Two w = false
    stays Three w = false
numbered_weight level plan (New n) = number_in plan.members plan.numbers (New n)

abbrev pub LevelPlans : Type 0
LevelPlans = PerLevel LevelPlan

abbrev pub numbered : LevelPlans → DraftElement → Element
numbered plans e = record {
  primary = numbered_weight One plans.primary e.primary;
  secondary = numbered_weight Two plans.secondary e.secondary;
  tertiary = numbered_weight Three plans.tertiary e.tertiary;
  mark = e.mark;
}

abbrev pub numbered_row : LevelPlans → DraftRow → Entry
numbered_row plans row = record { key = row.key; elements = map (numbered plans) row.elements }

-- ---- Runs

-- one weight more in front: in the first run if it goes on from it on both sides
abbrev pub run_before : ℕ → ℕ → List Run → List Run
run_before from to [] = record { from = from; to = to; count = 1 } ∷ []
run_before from to (r ∷ runs) =
    if nat_eq r.from (from + 1) && nat_eq r.to (to + 1) then record { from = from; to = to; count = r.count + 1 } ∷ runs
    else record { from = from; to = to; count = 1 } ∷ r ∷ runs

-- the base weights of a list with their numbers, in runs as long as possible; 0 is in no run
abbrev pub runs_of : List DraftWeight → List ℕ → List Run
runs_of [] numbers = []
runs_of (m ∷ members) [] = []
runs_of (Base w ∷ members) (n ∷ numbers) = if nat_eq w 0 then runs_of members numbers else run_before w n (runs_of members numbers)
runs_of (New _ ∷ members) (n ∷ numbers) = runs_of members numbers

-- ---- The plan

pub record Plan : Type 0 where
  pub rows : List Entry
  pub primary : List Run
  pub secondary : List Run
  pub tertiary : List Run

abbrev pub plan_of : List DraftRow → LevelPlans → Plan
plan_of rows plans = record {
  rows = map (numbered_row plans) rows;
  primary = runs_of plans.primary.members plans.primary.numbers;
  secondary = runs_of plans.secondary.members plans.secondary.numbers;
  tertiary = runs_of plans.tertiary.members plans.tertiary.numbers;
}

abbrev pub no_room : Level → TailorFault
no_room level = record { kind = kinds.NoRoom level; relation = 0 }

-- the lowest level without room, or else the plan
abbrev pub plan_with_room : List DraftRow → LevelPlans → Result Plan TailorFault
plan_with_room rows plans =
    if not (level_has_room One plans.primary.members) then Err (no_room One) else
    if not (level_has_room Two plans.secondary.members) then Err (no_room Two) else
    if not (level_has_room Three plans.tertiary.members) then Err (no_room Three) else
    Ok (plan_of rows plans)

abbrev pub plan_drafted : List Element → Result Drafting TailorFault → Result Plan TailorFault
plan_drafted base (Err fault) = Err fault
plan_drafted base (Ok drafting) = plan_with_room drafting.rows (record {
  primary = level_plan One base drafting.insertions;
  secondary = level_plan Two base drafting.insertions;
  tertiary = level_plan Three base drafting.insertions;
})

-- the plan of some rules over a well-formed base table, or why there is none
abbrev pub planned : Basis → List Relation → Result Plan TailorFault
planned basis relations = plan_drafted (elements_of basis.base) (with_relations basis 0 relations (begun basis))
