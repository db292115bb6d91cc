use Rattle.std.proofs.Common.{Contains, ap, ◌∙◌}
use Rattle.uca_values.specs.Content.{TableContent}
use Rattle.uca_check.specs.Searches.{FindsFirstWithout}
use Rattle.uca_elements.specs.Rows.{rows_of}
use Rattle.uca_tailorings.specs.KeptRows.{IsKnownRow}
use Rattle.uca_editions.specs.ChangeInputs.{change_in}
use Rattle.uca_editions.proofs.FoundRows.{told_by}
use Rattle.uca_editions.proofs.conditions.first_not_known.Goals as goal

pub returns : goal.returns
returns g c =
    let change = change_in c.args.inputs.now in
    told_by (λ entries rows. FindsFirstWithout (IsKnownRow (Contains change.texts) rows) entries c.first_unknown-found.result)
    c.deref.result.now change.new.rows _ (rows_of change.old.rows)
    (c.deref.ensures.value ∙ ap (λ (t : TableContent). t.rows) c.table.view_is) c.in_ok-old.ensures c.first_unknown-found.ensures
