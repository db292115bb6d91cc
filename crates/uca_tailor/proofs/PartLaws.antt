-- The parts of a plan: its drafts, its numbers and its certificate.
use Rattle.std.proofs.Common.{◌≡◌, ◌∙◌, List, Ok, ap}
use Rattle.uca_check.specs.WellFormed.{elements_of}
use Rattle.uca_relations.specs.declared.Relation.{Relation}
use Rattle.uca_certificates.specs.Certificates.{IsCertificate}
use Rattle.uca_plans.specs.Drafts.{DraftRow}
use Rattle.uca_plans.specs.Plans.{Basis, Drafting, with_relations, begun, LevelPlans, plan_of, plan_drafted, planned}
use Rattle.uca_plans.proofs.PlanLists.{certificate_in}
use Rattle.uca_tailor.specs.inside.PlanParts.{certificate_by}

-- drafts with numbers are a plan
pub planned_by : (basis : Basis) (relations : List Relation) (drafting : Drafting) (numbers : LevelPlans)
    → with_relations basis 0 relations (begun basis) ≡ Ok drafting
    → plan_drafted (elements_of basis.base) (Ok drafting) ≡ Ok (plan_of drafting.rows numbers)
    → planned basis relations ≡ Ok (plan_of drafting.rows numbers)
planned_by basis relations drafting numbers drafted has = ap (plan_drafted (elements_of basis.base)) drafted ∙ has

-- the numbers of a plan make a certificate
pub certificate_planned : (basis : Basis) (relations : List Relation) (rows : List DraftRow) (numbers : LevelPlans)
    → planned basis relations ≡ Ok (plan_of rows numbers) → IsCertificate (certificate_by numbers)
certificate_planned basis relations rows numbers is_plan =
    let proper = certificate_in basis relations (plan_of rows numbers) is_plan in
    record { primary = proper.0; secondary = proper.1; tertiary = proper.2 }
