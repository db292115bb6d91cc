use Rattle.std.proofs.Common.{subst}
use Rattle.std.specs.Prelude.{IfErr}
use Rattle.uca_values.specs.Content.{TableContent, properties_of}
use Rattle.uca_number_keys.specs.Tables.{RefusesTable}
use Rattle.uca_number_keys.proofs.tables.check_numbers.Goals as goal

pub returns-clause-rejected : goal.returns-clause-rejected
returns-clause-rejected g c =
    subst (λ (t : TableContent). IfErr c.check_number_rows.result (λ fault. RefusesTable c.args.numbers t (properties_of c.args.properties.now) fault.row))
    c.table.view_is (c.check_number_rows.ensures.rejected c.table.inside.header)
