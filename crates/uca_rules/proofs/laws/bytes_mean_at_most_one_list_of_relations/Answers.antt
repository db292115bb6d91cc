use Rattle.uca_rules.proofs.MeaningLaws.{one_meaning}
use Rattle.uca_rules.proofs.laws.bytes_mean_at_most_one_list_of_relations.Goals as goal

pub returns : goal.returns
returns c = one_meaning
