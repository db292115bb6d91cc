-- What is planned where each level has room.
use Rattle.std.proofs.Common.{◌≡◌, true, List, Ok, refl, subst, ap, ◌∙◌}
use Rattle.uca_weights.specs.declared.Level.{Level}
use Rattle.uca_weights.specs.declared.Level.TheVariants.{One, Two, Three}
use Rattle.uca_values.specs.Content.{Entry, TableContent}
use Rattle.uca_check.specs.WellFormed.{elements_of}
use Rattle.uca_plans.specs.declared.drafts.Insertion.{Insertion}
use Rattle.uca_plans.specs.Drafts.{DraftRow}
use Rattle.uca_plans.specs.Lists.{level_has_room, members_of}
use Rattle.uca_plans.proofs.PlanSteps.{level_plans}
use Rattle.uca_plans.specs.Plans.{LevelPlan, LevelPlans, level_plan, plan_with_room, plan_of}
use Rattle.uca_tailor.proofs.plan.number_levels.Goals as goal

-- A level has room, and this is its plan.
abbrev IsPlanned : Level → LevelPlan → List Entry → List Insertion → Type 0
IsPlanned level plan rows insertions =
    (level_has_room level (members_of level (elements_of rows) insertions) ≡ true) × (plan ≡ level_plan level (elements_of rows) insertions)

-- Where each level has room, there is a plan.
with_room : (rows : List DraftRow) (plans : LevelPlans) → level_has_room One plans.primary.members ≡ true
    → level_has_room Two plans.secondary.members ≡ true → level_has_room Three plans.tertiary.members ≡ true → plan_with_room rows plans ≡ Ok (plan_of rows plans)
with_room rows plans one two three = rw (one, two, three) refl

-- The plans of all levels are those of the drafts.
all_planned : (rows : List DraftRow) (base : List Entry) (insertions : List Insertion) (one two three : LevelPlan)
    → IsPlanned One one base insertions → IsPlanned Two two base insertions → IsPlanned Three three base insertions
    → plan_with_room rows (level_plans (elements_of base) insertions) ≡ Ok (plan_of rows (record { primary = one; secondary = two; tertiary = three }))
all_planned rows base insertions one two three is_one is_two is_three =
    let plans = level_plans (elements_of base) insertions in
    rw (is_one.1, is_two.1, is_three.1) (with_room rows plans is_one.0 is_two.0 is_three.0)

-- A plan of rows and insertions is one of equal rows and insertions.
moved : (level : Level) (plan : LevelPlan) (rows base : List Entry) (is insertions : List Insertion) → rows ≡ base → is ≡ insertions
    → IsPlanned level plan rows is → IsPlanned level plan base insertions
moved level plan rows base is insertions same_rows same_insertions planned =
    subst (λ (rs : List Entry). IsPlanned level plan rs insertions) same_rows
    (subst (λ (ins : List Insertion). IsPlanned level plan rows ins) same_insertions planned)

pub returns-in-Ok-number_level-clause-numbers : goal.returns-in-Ok-number_level-clause-numbers
returns-in-Ok-number_level-clause-numbers g c =
    let base = c.args.base.now.rows in
    let insertions = c.args.drafting.now.insertions in
    let from = c.insertions-insertions.result.now in
    let from_rows = c.deref-rows.result.now in
    let rows = c.deref-rows.ensures.value ∙ ap (λ (t : TableContent). t.rows) c.base.view_is in
    let same = c.insertions-insertions.ensures in
    let one = c.in_ok-primary.primary in
    let two = c.in-Ok.secondary in
    let three = c.in-Ok-number_level.tertiary in
    all_planned c.args.drafting.now.rows base insertions one two three
    (moved One one from_rows base from insertions rows same c.in_ok-primary.ensures.room)
    (moved Two two from_rows base from insertions rows same c.in-Ok.ensures.room)
    (moved Three three from_rows base from insertions rows same c.in-Ok-number_level.ensures.room)
