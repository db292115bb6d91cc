-- Why there is no tailored table: the kinds of a plan's errors, and what each says of the rules.
use Rattle.std.proofs.Common.{◌≡◌, inl, inr, ℕ, Bool, true, false, cond, not, List, Result, Ok, Err, refl, sym, subst}
use Rattle.std.specs.Prelude.{◌↔◌, IsTrue, OnOk, IfErr}
use Rattle.std.specs.Result.{is_ok}
use Rattle.uca_values.specs.Content.{Entry, TableContent, Properties}
use Rattle.uca_check.specs.declared.IllFormed.{IllFormed}
use Rattle.uca_check.specs.WellFormed.{IsWellFormed, IsFirstFailure, elements_of}
use Rattle.uca_check.proofs.WellFormedLemmas.{no_form_fails}
use Rattle.uca_relations.specs.declared.Relation.{Relation}
use Rattle.uca_weights.specs.declared.Level.TheVariants.{One, Two, Three}
use Rattle.uca_plans.proofs.PlanSteps.{level_plans}
use Rattle.uca_plans.proofs.RelationKinds.{IsRelationKind, relations_kind}
use Rattle.uca_plans.specs.declared.faults.TailorKind.{TailorKind}
use Rattle.uca_plans.specs.declared.faults.TailorKind.TheVariants as kinds
use Rattle.uca_plans.specs.declared.faults.TailorFault.{TailorFault}
use Rattle.uca_plans.specs.Lists.{level_has_room}
use Rattle.uca_plans.specs.Plans.{Basis, Drafting, with_relations, begun, Plan, plan_of, no_room, plan_drafted, planned}
use Rattle.uca_plans.specs.Tailors.{basis_of, IsRefusedBy, CauseOf, TailorRefuses}
use Rattle.uca_tailor.specs.inside.PlanParts.{IsNotMade}

-- ---- Kinds

-- the kinds of an error of a plan's definition
abbrev IsPlanKind : TailorKind → Type 0
IsPlanKind kinds.BaseIllFormed = ⊥
IsPlanKind kinds.Memory = ⊥
IsPlanKind _ = Unit {0}

-- among them are those of a relation
of_relation : (kind : TailorKind) → IsRelationKind kind → IsPlanKind kind
of_relation kinds.BaseIllFormed is = is
of_relation kinds.Anchor is = is
of_relation kinds.NeedsPrefix is = is
of_relation (kinds.NoRoom level) is = absurd is
of_relation kinds.Limit is = is
of_relation kinds.ImplicitVariable is = is
of_relation kinds.Memory is = is

-- an error of a plan's definition is of one of these kinds
planned_kind : (basis : Basis) (relations : List Relation) (fault : TailorFault) → planned basis relations ≡ Err fault → IsPlanKind fault.kind
planned_kind basis relations fault refused = go (with_relations basis 0 relations (begun basis)) refl refused
  where
    -- by the room of the levels
    rooms : (a b c : Bool) (plan : Plan)
        → cond (not a) (Err (no_room One)) (cond (not b) (Err (no_room Two)) (cond (not c) (Err (no_room Three)) (Ok plan))) ≡ Err fault
        → IsPlanKind fault.kind
    rooms false b c plan e = let same : no_room One ≡ fault = cc in subst (λ f. IsPlanKind f.kind) same tt
    rooms true false c plan e = let same : no_room Two ≡ fault = cc in subst (λ f. IsPlanKind f.kind) same tt
    rooms true true false plan e = let same : no_room Three ≡ fault = cc in subst (λ f. IsPlanKind f.kind) same tt
    rooms true true true plan e = absurd (cc)

    -- by the drafts
    go : (drafts : Result Drafting TailorFault) → with_relations basis 0 relations (begun basis) ≡ drafts
        → plan_drafted (elements_of basis.base) drafts ≡ Err fault → IsPlanKind fault.kind
    go (Err first) e refused =
        let same : first ≡ fault = cc in
        subst (λ f. IsPlanKind f.kind) same (of_relation first.kind (relations_kind basis 0 relations (begun basis) first e))
    go (Ok drafting) e refused =
        let plans = level_plans (elements_of basis.base) drafting.insertions in
        rooms (level_has_room One plans.primary.members) (level_has_room Two plans.secondary.members) (level_has_room Three plans.tertiary.members)
        (plan_of drafting.rows plans) refused

-- such an error says that the definition rejects the rules
cause_by_kind : (base : TableContent) (properties : Properties) (relations : List Relation) (fault : TailorFault) (kind : TailorKind)
    → IsPlanKind kind → IsRefusedBy base properties relations fault → CauseOf base properties relations fault kind
cause_by_kind base properties relations fault kinds.BaseIllFormed none refused = absurd none
cause_by_kind base properties relations fault kinds.Anchor is refused = refused
cause_by_kind base properties relations fault kinds.NeedsPrefix is refused = refused
cause_by_kind base properties relations fault (kinds.NoRoom level) is refused = refused
cause_by_kind base properties relations fault kinds.Limit is refused = refused
cause_by_kind base properties relations fault kinds.ImplicitVariable is refused = refused
cause_by_kind base properties relations fault kinds.Memory none refused = absurd none

-- ---- Rejections

-- where there is no plan
pub refused_plan : (base : TableContent) (properties : Properties) (relations : List Relation) (fault : TailorFault)
    → IsWellFormed properties.class base.rows → IsNotMade base properties relations fault → TailorRefuses base properties relations fault
refused_plan base properties relations fault well (inl none) =
    cause_by_kind base properties relations fault fault.kind (planned_kind (basis_of base properties) relations fault none)
    (record { well_formed = well; first = none })
refused_plan base properties relations fault well (inr memory) =
    subst (λ f. TailorRefuses base properties relations f) (sym memory) refl

-- ---- The base

-- what a check returns decides whether a table is well-formed
pub check_decides : {X : Type 0} (class : ℕ → ℕ) (rows : List Entry) (answer : Result X IllFormed) → OnOk answer (IsWellFormed class rows)
    → IfErr answer (λ fault. IsFirstFailure class rows fault.wf fault.row) → IsTrue (is_ok answer) ↔ IsWellFormed class rows
check_decides class rows (Ok done) well ill = (λ is. well, λ is. refl)
check_decides class rows (Err fault) well ill = (λ is. absurd (cc), λ is. absurd (no_form_fails class rows fault.wf fault.row is ill))
