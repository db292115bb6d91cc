use Rattle.uca_rules.proofs.Exclusion.{a_cause_excludes_a_meaning}
use Rattle.uca_rules.proofs.laws.bytes_with_a_fault_mean_nothing.Goals as goal

pub returns : goal.returns
returns c = a_cause_excludes_a_meaning
