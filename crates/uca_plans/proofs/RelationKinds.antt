-- The kinds of errors that a relation of a plan may have.
use Rattle.std.proofs.Common.{◌≡◌, ℕ, ◌+◌, Bool, true, false, cond, List, [], ◌∷◌, ◌++◌, Option, Some, None, Result, Ok, Err, refl, subst}
use Rattle.uca_check.specs.WellFormed.{elements_of}
use Rattle.uca_relations.specs.declared.Relation.{Relation}
use Rattle.uca_plans.specs.declared.drafts.DraftWeight.TheVariants.{New}
use Rattle.uca_plans.specs.declared.faults.TailorKind.{TailorKind}
use Rattle.uca_plans.specs.declared.faults.TailorKind.TheVariants as kinds
use Rattle.uca_plans.specs.declared.faults.TailorFault.{TailorFault}
use Rattle.uca_plans.specs.Drafts.{DraftRow, with_row}
use Rattle.uca_plans.specs.Plans.{Basis, Drafting, Drafted, drafted, needs_prefix, passes_limit, holds_implicit_variable, one_drafted}
use Rattle.uca_plans.specs.Plans.{with_relation, and_then, with_relations}
use Rattle.uca_plans.proofs.PlanSteps.{target_row}

-- the kinds of an error of a relation
abbrev pub IsRelationKind : TailorKind → Type 0
IsRelationKind kinds.BaseIllFormed = ⊥
IsRelationKind (kinds.NoRoom level) = ⊥
IsRelationKind kinds.Memory = ⊥
IsRelationKind _ = Unit {0}

-- a relation is rejected for one of these
relation_kind : (basis : Basis) (so_far : Drafting) (n : ℕ) (r : Relation) (kind : TailorKind) → with_relation basis so_far n r ≡ Err kind
    → IsRelationKind kind
relation_kind basis so_far n r kind refused = go (drafted basis so_far (New n) r) refused
  where
    -- by its prefix, the limits and its implicit elements
    tests : (a b c : Bool) (after : Drafting)
        → cond a (Err kinds.NeedsPrefix) (cond b (Err kinds.Limit) (cond c (Err kinds.ImplicitVariable) (Ok after))) ≡ Err kind → IsRelationKind kind
    tests true b c after e = let same : kinds.NeedsPrefix ≡ kind = cc in subst IsRelationKind same tt
    tests false true c after e = let same : kinds.Limit ≡ kind = cc in subst IsRelationKind same tt
    tests false false true after e = let same : kinds.ImplicitVariable ≡ kind = cc in subst IsRelationKind same tt
    tests false false false after e = absurd (cc)

    -- by what it gives its target
    go : (new : Option Drafted) → one_drafted basis so_far r.target.points new ≡ Err kind → IsRelationKind kind
    go None e = let same : kinds.Anchor ≡ kind = cc in subst IsRelationKind same tt
    go (Some new) e =
        let row : DraftRow = target_row r new in
        tests (needs_prefix basis.properties.class so_far.rows r.target.points) (passes_limit row (with_row row so_far.rows))
        (holds_implicit_variable (elements_of basis.base) row) (record { rows = with_row row so_far.rows; insertions = so_far.insertions ++ new.insertions }) e

-- and so are relations
pub relations_kind : (basis : Basis) (n : ℕ) (relations : List Relation) (so_far : Drafting) (fault : TailorFault)
    → with_relations basis n relations so_far ≡ Err fault → IsRelationKind fault.kind
relations_kind basis n [] so_far fault refused = absurd (cc)
relations_kind basis n (r ∷ relations) so_far fault refused =
    go (with_relation basis so_far n r) refl refused (λ next. relations_kind basis (n + 1) relations next fault)
  where
    -- by the first relation
    go : (first : Result Drafting TailorKind) → with_relation basis so_far n r ≡ first
        → and_then basis n first (λ next. with_relations basis (n + 1) relations next) ≡ Err fault
        → ((next : Drafting) → with_relations basis (n + 1) relations next ≡ Err fault → IsRelationKind fault.kind) → IsRelationKind fault.kind
    go (Err kind) e refused later =
        let this : TailorFault = record { kind = kind; relation = n + 1 } in
        let same : this ≡ fault = cc in
        subst (λ f. IsRelationKind f.kind) same (relation_kind basis so_far n r kind e)
    go (Ok next) e refused later = later next refused
