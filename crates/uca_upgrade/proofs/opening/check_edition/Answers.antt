-- The rows that were packed are those of the table.
use Rattle.std.proofs.Common.{◌≡◌, ◌∙◌, List, ap, subst}
use Rattle.uca_values.specs.Content.{Entry, TableContent, properties_of}
use Rattle.uca_number_keys.specs.Tables.{TakesTable, RefusesTable}
use Rattle.uca_upgrade.proofs.opening.check_edition.Goals as goal

pub returns-in-Ok-check_number_rows-clause-taken : goal.returns-in-Ok-check_number_rows-clause-taken
returns-in-Ok-check_number_rows-clause-taken c =
    let header = c.args.edition.now.table.header in
    let same : c.in-Ok.rows ≡ c.args.edition.now.table.rows = c.in-Ok.ensures ∙ c.deref.ensures.value ∙ ap (λ (t : TableContent). t.rows) c.table.view_is in
    subst (λ (rows : List Entry). TakesTable c.args.numbers (record { header = header; rows = rows }) (properties_of c.args.edition.now.properties)) same
    (c.in-Ok-check_number_rows.ensures.taken header)

pub returns-clause-stop : goal.returns-clause-stop
returns-clause-stop c =
    let header = c.args.edition.now.table.header in
    let same : c.in-Ok.rows ≡ c.args.edition.now.table.rows = c.in-Ok.ensures ∙ c.deref.ensures.value ∙ ap (λ (t : TableContent). t.rows) c.table.view_is in
    subst (λ (rows : List Entry). RefusesTable c.args.numbers (record { header = header; rows = rows }) (properties_of c.args.edition.now.properties) c.in-Err.fault.row) same
    (c.in-Err.ensures.rejected header)
