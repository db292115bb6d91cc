-- How the errors of the planner are returned.
use Rattle.uca_plans.specs.declared.faults.TailorFault.{TailorFault}
use Rattle.uca_plans.specs.declared.faults.TailorKind.{TailorKind}
use Rattle.uca_plans.specs.declared.faults.TailorKind.TheVariants as kinds
use Rattle.uca_run_parts.specs.declared.faults.RunFault.{RunFault}
use Rattle.uca_run_parts.specs.declared.faults.RunFault.TheVariants.{Tailor, Memory}

-- how an error of the planner is returned: an allocation that failed is not an error of the rules
abbrev pub refused_plan : TailorFault → RunFault
refused_plan fault = refused_by fault.kind
  where
    refused_by : TailorKind → RunFault
    refused_by kinds.Memory = Memory
    refused_by _ = Tailor fault
