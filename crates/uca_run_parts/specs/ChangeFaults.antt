-- How the errors of changes are returned.
use Rattle.uca_changes.specs.declared.faults.ChangeFault.{ChangeFault}
use Rattle.uca_changes.specs.declared.faults.ChangeFault.TheVariants as change_faults
use Rattle.uca_run_parts.specs.declared.faults.RunFault.{RunFault}
use Rattle.uca_run_parts.specs.declared.faults.RunFault.TheVariants.{Changes, Memory}

-- how an error of a change is returned: an allocation that failed is not an error of the files
abbrev pub refused_changes : ChangeFault → RunFault
refused_changes change_faults.Memory = Memory
refused_changes fault = Changes fault
