-- No later target occurs in order in a relation's texts, except in one that is an earlier target, and that is a key as a whole.
use Rattle.uca_plans.proofs.SameReading.{same_reading}
use Rattle.uca_plans.proofs.laws.relations_read_over_all_keys.Goals as goal

pub returns : goal.returns
returns c = same_reading
