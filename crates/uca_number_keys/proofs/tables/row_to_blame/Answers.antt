use Rattle.uca_values.specs.Content.{properties_of}
use Rattle.uca_number_keys.proofs.TableChecks.{blamed_key}
use Rattle.uca_number_keys.proofs.tables.row_to_blame.Goals as goal

pub returns-in-Some : goal.returns-in-Some
returns-in-Some g c = blamed_key (properties_of c.args.properties.now) c.args.rows.now c.in-Some.at c.in-Some.ensures.0 c.in-Some.ensures.1
