use Rattle.uca_values.specs.Content.{properties_of}
use Rattle.uca_number_keys.proofs.TableChecks.{orders_from, unordered_by}
use Rattle.uca_number_keys.proofs.tables.check_number_rows.Goals as goal

pub returns-in-None-clause-taken : goal.returns-in-None-clause-taken
returns-in-None-clause-taken g c = λ header is.
    orders_from (record { header = header; rows = c.args.rows.now }) (properties_of c.args.properties.now) c.in-None.ensures.0 c.in-None.ensures.1

pub returns-in-Some-clause-rejected : goal.returns-in-Some-clause-rejected
returns-in-Some-clause-rejected g c = λ header. record {
  asked = c.in-ByValue.is;
  unordered = unordered_by (record { header = header; rows = c.args.rows.now }) (properties_of c.args.properties.now) c.in-Some.row c.in-Some.ensures;
  blame = c.in-Some.ensures;
}
