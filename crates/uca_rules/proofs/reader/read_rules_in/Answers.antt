use Rattle.uca_values.specs.Content.{properties_of}
use Rattle.uca_rules.proofs.OnlyMeaning.{only_meaning}
use Rattle.uca_rules.proofs.reader.read_rules_in.Goals as goal

pub returns-clause-only : goal.returns-clause-only
returns-clause-only g c = only_meaning (properties_of c.args.properties.now) c.args.bytes.now c.read_all.result c.read_all.ensures.found c.read_all.ensures.fault
