-- A plan's table and certificate as a tailoring.
use Rattle.uca_weights.specs.declared.Level.TheVariants.{One, Two, Three}
use Rattle.uca_weights.proofs.RunMaps.{IsRisingMap-runs}
use Rattle.uca_tailorings.proofs.Faithful.{accepted_are_faithful}
use Rattle.uca_plans.specs.Tailors.{basis_of}
use Rattle.uca_plans.proofs.PlanLists.{certificate_in}
use Rattle.uca_plans.proofs.PlanRows.{table_in}
use Rattle.uca_acceptance.specs.Accepted.{tailoring_by, PlansMakeTailorings, PlansAreFaithful}
use Rattle.uca_acceptance.proofs.AllConditions.{accepted}

-- a plan's table is a table, and its runs make rising maps
pub make_tailorings : PlansMakeTailorings
make_tailorings base properties relations plan is =
    let runs = certificate_in (basis_of base properties) relations plan is.is_planned in
    record {
      base = is.table;
      tailored = table_in base properties relations plan is.is_planned is.table is.well_formed is.rules;
      rules = is.rules;
      maps = record {
        primary = IsRisingMap-runs One plan.primary runs.0;
        secondary = IsRisingMap-runs Two plan.secondary runs.1;
        tertiary = IsRisingMap-runs Three plan.tertiary runs.2;
      };
    }

-- so it means all that an accepted tailoring means
pub are_faithful : PlansAreFaithful
are_faithful base properties relations plan is =
    accepted_are_faithful (tailoring_by base properties relations plan) (make_tailorings base properties relations plan is)
    (λ condition. accepted condition base properties relations plan is)
