-- The rows of a plan are those of a table.
use Rattle.std.proofs.Common.{◌≡◌, ℕ, ◌+◌, ◌<◌, Bool, true, false, nat_eq, nat_le, List, [], ◌∷◌, map, length}
use Rattle.std.proofs.Common.{Ok, sym, arith, subst, if◌then◌else◌}
use Rattle.std.specs.List.{AllByRecursion}
use Rattle.uca_weights.specs.declared.Element.{Element}
use Rattle.uca_weights.specs.declared.Level.{Level}
use Rattle.uca_weights.specs.declared.Level.TheVariants.{One, Two, Three}
use Rattle.uca_values.specs.Content.{Properties, TableContent, IsTable, Fits, AreRows, AreImplicitRanges}
use Rattle.uca_check.specs.WellFormed.{elements_of, MeetsWF1, IsWellFormed}
use Rattle.uca_relations.specs.declared.Relation.{Relation}
use Rattle.uca_relations.specs.Relations.{HasRuleTexts, AreRules}
use Rattle.uca_plans.specs.declared.drafts.DraftWeight.{DraftWeight}
use Rattle.uca_plans.specs.declared.drafts.DraftWeight.TheVariants.{Base, New}
use Rattle.uca_plans.specs.declared.drafts.DraftElement.{DraftElement}
use Rattle.uca_plans.specs.Lists.{Insertion, top_weight, level_has_room, level_numbers, number_in, members_of}
use Rattle.uca_plans.specs.Drafts.{DraftRow}
use Rattle.uca_plans.specs.Plans.{Basis, begun, LevelPlan, level_plan, LevelPlans}
use Rattle.uca_plans.specs.Plans.{numbered_weight, numbered, numbered_row, Plan, planned}
use Rattle.uca_plans.specs.Tailors.{basis_of, table_of}
use Rattle.uca_plans.proofs.RisingNumbers.{number_bound, level_within}
use Rattle.uca_plans.proofs.PlanSteps.{IsPlanned, planned_is, level_plans}
use Rattle.uca_plans.proofs.PlanHolds.{FitsWeight, Holds, start}
use Rattle.uca_plans.proofs.PlanCarried.{carried}
use Rattle.uca_plans.proofs.RowSizes.{rows_in, sized_rows_fit}

-- ---- Weights of 16 bits

-- each level's top is a number of 16 bits
pub top_fits : (level : Level) → top_weight level < 0x1_0000
top_fits One = omega arith
top_fits Two = omega arith
top_fits Three = omega arith

-- what a numbered weight is chosen from
chosen_fits : (none high : Bool) (w number : ℕ) → w < 0x1_0000 → number < 0x1_0000 → (if none then 0 else if high then w else number) < 0x1_0000
chosen_fits true high w number small bound = omega arith
chosen_fits false true w number small bound = small
chosen_fits false false w number small bound = bound

-- a numbered weight is a number of 16 bits, where all numbers are
weight_fits : (level : Level) (plan : LevelPlan) → ((w : DraftWeight) → number_in plan.members plan.numbers w < 0x1_0000) → (w : DraftWeight)
    → FitsWeight w → numbered_weight level plan w < 0x1_0000
weight_fits One plan bound (Base w) small = chosen_fits (nat_eq w 0) (nat_le 0x8000 w) w (number_in plan.members plan.numbers (Base w)) small (bound (Base w))
weight_fits Two plan bound (Base w) small = chosen_fits (nat_eq w 0) false w (number_in plan.members plan.numbers (Base w)) small (bound (Base w))
weight_fits Three plan bound (Base w) small = chosen_fits (nat_eq w 0) false w (number_in plan.members plan.numbers (Base w)) small (bound (Base w))
weight_fits One plan bound (New n) small = bound (New n)
weight_fits Two plan bound (New n) small = bound (New n)
weight_fits Three plan bound (New n) small = bound (New n)

-- the numbers of a level with room are numbers of 16 bits
number_fits : (level : Level) (es : List Element) (is : List Insertion) → level_has_room level (members_of level es is) ≡ true → (w : DraftWeight)
    → number_in (level_plan level es is).members (level_plan level es is).numbers w < 0x1_0000
number_fits level es is room w =
    let ms : List DraftWeight = members_of level es is in
    let within = number_bound (top_weight level) ms (level_numbers level ms) w (level_within level ms room) in
    let top = top_fits level in
    omega (arith, within, top)

-- what is true of a plan's drafts
pub holds_planned : (basis : Basis) (relations : List Relation) (plan : Plan) (made : IsPlanned basis relations plan) → AreRows basis.base
    → AllByRecursion MeetsWF1 basis.base
    → AreImplicitRanges basis.ranges → AllByRecursion HasRuleTexts relations → Holds basis (0 + length relations) made.drafting
holds_planned basis relations plan made rows whole ranges texts =
    (carried basis 0 relations (begun basis) made.drafting (start basis rows.entries whole) ranges texts made.steps).behind

-- what is true of each element of rows is true of each of the numbered ones
pub numbered_each : (P : DraftElement → Type 0) (Q : Element → Type 0) (plans : LevelPlans) → ((e : DraftElement) → P e → Q (numbered plans e))
    → (rows : List DraftRow) → AllByRecursion (λ row. AllByRecursion P row.elements) rows
    → AllByRecursion (λ row. AllByRecursion Q row.elements) (map (numbered_row plans) rows)
numbered_each P Q plans holds [] all = tt
numbered_each P Q plans holds (row ∷ rows) all = (in_row row.elements all.0, numbered_each P Q plans holds rows all.1)
  where
    -- the elements of one row
    in_row : (es : List DraftElement) → AllByRecursion P es → AllByRecursion Q (map (numbered plans) es)
    in_row [] each = tt
    in_row (e ∷ es) each = (holds e each.0, in_row es each.1)

-- the weights of a plan's rows are numbers of 16 bits
made_fits : (basis : Basis) (relations : List Relation) (plan : Plan) (made : IsPlanned basis relations plan) → AreRows basis.base
    → AllByRecursion MeetsWF1 basis.base
    → AreImplicitRanges basis.ranges → AllByRecursion HasRuleTexts relations
    → AllByRecursion (λ row. AllByRecursion Fits row.elements)
    (map (numbered_row (level_plans (elements_of basis.base) made.drafting.insertions)) made.drafting.rows)
made_fits basis relations plan made rows whole ranges texts =
    let holds = holds_planned basis relations plan made rows whole ranges texts in
    let es = elements_of basis.base in
    let is = made.drafting.insertions in
    let plans = level_plans (elements_of basis.base) made.drafting.insertions in
    numbered_each holds.E Fits plans
    (λ e held. let fits = holds.fits e held in record {
      primary = weight_fits One plans.primary (number_fits One es is (made.room_one)) e.primary fits.primary;
      secondary = weight_fits Two plans.secondary (number_fits Two es is (made.room_two)) e.secondary fits.secondary;
      tertiary = weight_fits Three plans.tertiary (number_fits Three es is (made.room_three)) e.tertiary fits.tertiary;
    })
    made.drafting.rows holds.held

-- and so are those of every plan
pub numbered_fits : (basis : Basis) (relations : List Relation) (plan : Plan) → planned basis relations ≡ Ok plan → AreRows basis.base
    → AllByRecursion MeetsWF1 basis.base
    → AreImplicitRanges basis.ranges → AllByRecursion HasRuleTexts relations → AllByRecursion (λ row. AllByRecursion Fits row.elements) plan.rows
numbered_fits basis relations plan planned_so rows whole ranges texts =
    let made = planned_is basis relations plan planned_so in
    subst (λ p. AllByRecursion (λ row. AllByRecursion Fits row.elements) p.rows) (sym made.is_plan)
    (made_fits basis relations plan made rows whole ranges texts)

-- ---- The table

-- the rows of a plan are those of a table
pub table_rows : (basis : Basis) (relations : List Relation) (plan : Plan) → planned basis relations ≡ Ok plan → AreRows basis.base
    → AllByRecursion MeetsWF1 basis.base → AreImplicitRanges basis.ranges → AreRules relations → AreRows plan.rows
table_rows basis relations plan planned_so rows whole ranges rules =
    sized_rows_fit plan.rows (rows_in basis relations plan rows rules planned_so)
    (numbered_fits basis relations plan planned_so rows whole ranges rules.texts)

-- so a plan over a well-formed table makes a table with its header
pub table_in : (base : TableContent) (properties : Properties) (relations : List Relation) (plan : Plan)
    → planned (basis_of base properties) relations ≡ Ok plan → IsTable base → IsWellFormed properties.class base.rows → AreRules relations
    → IsTable (table_of base plan)
table_in base properties relations plan planned_so table well rules = record {
  header = table.header;
  rows = table_rows (basis_of base properties) relations plan planned_so table.rows well.wf1 table.header.ranges rules;
}
