-- The parts of a plan: a step for each relation, then the numbers of each level.
use Rattle.std.proofs.Common.{◌≡◌, ℕ, ◌+◌, List, [], ◌∷◌, ◌++◌, Bool, true, false, cond, not, Option, Some, None, Result, Ok, Err, refl, sym, subst}
use Rattle.uca_weights.specs.declared.Element.{Element}
use Rattle.uca_weights.specs.declared.Level.TheVariants.{One, Two, Three}
use Rattle.uca_check.specs.WellFormed.{elements_of}
use Rattle.uca_relations.specs.declared.Relation.{Relation}
use Rattle.uca_plans.specs.declared.drafts.DraftWeight.TheVariants.{New}
use Rattle.uca_plans.specs.declared.faults.TailorKind.{TailorKind}
use Rattle.uca_plans.specs.declared.faults.TailorKind.TheVariants as kinds
use Rattle.uca_plans.specs.declared.faults.TailorFault.{TailorFault}
use Rattle.uca_plans.specs.Lists.{Insertion, level_has_room}
use Rattle.uca_plans.specs.Drafts.{DraftRow, with_row}
use Rattle.uca_plans.specs.Plans.{Basis, Drafting, Drafted, drafted, needs_prefix, passes_limit, holds_implicit_variable, accepted_row, one_drafted}
use Rattle.uca_plans.specs.Plans.{with_relation, and_then}
use Rattle.uca_plans.specs.Plans.{with_relations, begun, level_plan, LevelPlans, Plan, plan_of, plan_drafted, no_room, planned}

-- the row of a relation's target
abbrev pub target_row : Relation → Drafted → DraftRow
target_row r new = record { key = r.target.points; elements = new.elements }

-- one relation that is not rejected: what it gives its target, and the drafting after it
pub record IsStep (basis : Basis) (n : ℕ) (r : Relation) (here behind : Drafting) : Type 0 where
  pub new : Drafted
  pub is_drafted : drafted basis here (New n) r ≡ Some new
  pub has_prefix : needs_prefix basis.properties.class here.rows r.target.points ≡ false
  pub rows : behind.rows ≡ with_row (target_row r new) here.rows
  pub insertions : behind.insertions ≡ here.insertions ++ new.insertions
  pub within : passes_limit (target_row r new) behind.rows ≡ false
  pub outside : holds_implicit_variable (elements_of basis.base) (target_row r new) ≡ false

-- relations that are not rejected, after n others, from one drafting to another
abbrev pub AreSteps : Basis → ℕ → List Relation → Drafting → Drafting → Type 0
AreSteps basis n [] here behind = here ≡ behind
AreSteps basis n (r ∷ relations) here behind = (next : Drafting) × IsStep basis n r here next × AreSteps basis (n + 1) relations next behind

-- the three levels of a plan
abbrev pub level_plans : List Element → List Insertion → LevelPlans
level_plans base insertions =
    record { primary = level_plan One base insertions; secondary = level_plan Two base insertions; tertiary = level_plan Three base insertions }

-- what is true of rules that have a plan: the steps of the relations, and room at each level
pub record IsPlanned (basis : Basis) (relations : List Relation) (plan : Plan) : Type 0 where
  pub drafting : Drafting
  pub steps : AreSteps basis 0 relations (begun basis) drafting
  pub room_one : level_has_room One (level_plan One (elements_of basis.base) drafting.insertions).members ≡ true
  pub room_two : level_has_room Two (level_plan Two (elements_of basis.base) drafting.insertions).members ≡ true
  pub room_three : level_has_room Three (level_plan Three (elements_of basis.base) drafting.insertions).members ≡ true
  pub is_plan : plan ≡ plan_of drafting.rows (level_plans (elements_of basis.base) drafting.insertions)

accepted_step : (basis : Basis) (n : ℕ) (r : Relation) (here behind : Drafting) (new : Drafted) → drafted basis here (New n) r ≡ Some new →
    accepted_row basis here r.target.points (target_row r new) new.insertions (with_row (target_row r new) here.rows) ≡ Ok behind →
    IsStep basis n r here behind
accepted_step basis n r here behind new is_drafted h =
    go (needs_prefix basis.properties.class here.rows r.target.points) refl
    (passes_limit (target_row r new) (with_row (target_row r new) here.rows)) refl
    (holds_implicit_variable (elements_of basis.base) (target_row r new)) refl h
  where
    after : Drafting
    after = record { rows = with_row (target_row r new) here.rows; insertions = here.insertions ++ new.insertions }

    go : (a : Bool) → needs_prefix basis.properties.class here.rows r.target.points ≡ a → (b : Bool) →
        passes_limit (target_row r new) (with_row (target_row r new) here.rows) ≡ b →
        (c : Bool) → holds_implicit_variable (elements_of basis.base) (target_row r new) ≡ c →
        cond a (Err kinds.NeedsPrefix) (cond b (Err kinds.Limit) (cond c (Err kinds.ImplicitVariable) (Ok after))) ≡ Ok behind →
        IsStep basis n r here behind
    go true e b f c g h = cc
    go false e true f c g h = cc
    go false e false f true g h = cc
    go false e false f false g h =
        let same : after ≡ behind = cc in
        subst (IsStep basis n r here) same
        (record { new = new; is_drafted = is_drafted; has_prefix = e; rows = refl; insertions = refl; within = f; outside = g })

-- so is one that is made with what is drafted
drafted_step : (basis : Basis) (n : ℕ) (r : Relation) (here behind : Drafting) (new : Option Drafted) → drafted basis here (New n) r ≡ new →
    one_drafted basis here r.target.points new ≡ Ok behind → IsStep basis n r here behind
drafted_step basis n r here behind None is_drafted h = cc
drafted_step basis n r here behind (Some new) is_drafted h = accepted_step basis n r here behind new is_drafted h

-- a relation that is not rejected is a step
pub step_of : (basis : Basis) (n : ℕ) (r : Relation) (here behind : Drafting) → with_relation basis here n r ≡ Ok behind →
    IsStep basis n r here behind
step_of basis n r here behind h = drafted_step basis n r here behind (drafted basis here (New n) r) refl h

-- and relations that are not rejected are steps
pub steps_of : (basis : Basis) (n : ℕ) (relations : List Relation) (here behind : Drafting) → with_relations basis n relations here ≡ Ok behind →
    AreSteps basis n relations here behind
steps_of basis n [] here behind h = let same : here ≡ behind = cc in same
steps_of basis n (r ∷ relations) here behind h =
    go (with_relation basis here n r) refl h (λ next. steps_of basis (n + 1) relations next behind)
  where
    go : (o : Result Drafting TailorKind) → with_relation basis here n r ≡ o →
        and_then basis n o (λ next. with_relations basis (n + 1) relations next) ≡ Ok behind →
        ((next : Drafting) → with_relations basis (n + 1) relations next ≡ Ok behind → AreSteps basis (n + 1) relations next behind) →
        AreSteps basis n (r ∷ relations) here behind
    go (Err kind) e h later = cc
    go (Ok next) e h later = (next, step_of basis n r here next e, later next h)

-- what a plan is made of
pub planned_is : (basis : Basis) (relations : List Relation) (plan : Plan) → planned basis relations ≡ Ok plan → IsPlanned basis relations plan
planned_is basis relations plan h = go (with_relations basis 0 relations (begun basis)) refl h
  where
    with_room : (drafting : Drafting) → AreSteps basis 0 relations (begun basis) drafting → (a b c : Bool) →
        level_has_room One (level_plan One (elements_of basis.base) drafting.insertions).members ≡ a →
        level_has_room Two (level_plan Two (elements_of basis.base) drafting.insertions).members ≡ b →
        level_has_room Three (level_plan Three (elements_of basis.base) drafting.insertions).members ≡ c →
        cond (not a) (Err (no_room One)) (cond (not b) (Err (no_room Two)) (cond (not c) (Err (no_room Three))
        (Ok (plan_of drafting.rows (level_plans (elements_of basis.base) drafting.insertions))))) ≡ Ok plan → IsPlanned basis relations plan
    with_room drafting steps false b c one two three h = cc
    with_room drafting steps true false c one two three h = cc
    with_room drafting steps true true false one two three h = cc
    with_room drafting steps true true true one two three h =
        let same : plan_of drafting.rows (level_plans (elements_of basis.base) drafting.insertions) ≡ plan = cc in
        record { drafting = drafting; steps = steps; room_one = one; room_two = two; room_three = three; is_plan = sym same }

    go : (o : Result Drafting TailorFault) → with_relations basis 0 relations (begun basis) ≡ o →
        plan_drafted (elements_of basis.base) o ≡ Ok plan → IsPlanned basis relations plan
    go (Err fault) e h = cc
    go (Ok drafting) e h =
        let steps : AreSteps basis 0 relations (begun basis) drafting = steps_of basis 0 relations (begun basis) drafting e in
        with_room drafting steps (level_has_room One (level_plan One (elements_of basis.base) drafting.insertions).members)
        (level_has_room Two (level_plan Two (elements_of basis.base) drafting.insertions).members)
        (level_has_room Three (level_plan Three (elements_of basis.base) drafting.insertions).members) refl refl refl h
