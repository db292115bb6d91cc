use Rattle.std.proofs.Common.{refl, Contains, List, ◌<◌, ◌+◌, length, ap, ◌∙◌, subst}
use Rattle.std.specs.List.{AllByRecursion}
use Rattle.uca_values.specs.Content.{Entry, TableContent}
use Rattle.uca_check.specs.WellFormed.{IsFirstWithout}
use Rattle.uca_elements.specs.Rows.{rows_of}
use Rattle.uca_tailorings.specs.KeptRows.{IsKeptRow}
use Rattle.uca_certificates.specs.Certificates.{CertificateContent}
use Rattle.uca_tailorings.specs.Inputs.{maps_of}
use Rattle.uca_changes.specs.declared.conditions.ChangeCondition.TheVariants.{RowChanged}
use Rattle.uca_changes.specs.declared.faults.ChangePlace.TheVariants.{OldRow}
use Rattle.uca_editions.specs.ChangeInputs.{change_in}
use Rattle.uca_editions.proofs.Chaining.{meets_more, refused_at}
use Rattle.uca_editions.proofs.FoundRows.{told_by}
use Rattle.uca_editions.proofs.conditions.audit_kept.Goals as goal

pub audit_present-requires-clause-met : goal.audit_present-requires-clause-met
audit_present-requires-clause-met g c =
    let change = change_in c.args.inputs.now in
    meets_more change RowChanged c.requires.met
    (subst (λ (content : CertificateContent). AllByRecursion (IsKeptRow (maps_of content) (Contains change.texts) (rows_of change.new.rows)) change.old.rows)
    c.requires.images
    (told_by (λ entries rows. AllByRecursion (IsKeptRow (maps_of c.args.images.now) (Contains change.texts) rows) entries)
    c.deref.result.now change.old.rows _ (rows_of change.new.rows)
    (c.deref.ensures.value ∙ ap (λ (t : TableContent). t.rows) c.old.view_is) c.requires.rows c.in-None.ensures))

pub at_old_row-requires : goal.at_old_row-requires
at_old_row-requires g c =
    subst (λ (entries : List Entry). c.in-Some.at < length entries) (c.deref.ensures.value ∙ ap (λ (t : TableContent). t.rows) c.old.view_is)
    c.in-Some.ensures.0

pub returns-in-Some : goal.returns-in-Some
returns-in-Some g c =
    let change = change_in c.args.inputs.now in
    let number = c.in-Some.at + 1 in
    refused_at change RowChanged (OldRow number) c.at_old_row.result c.requires.met c.at_old_row.ensures (
      number,
      refl,
      subst (λ (content : CertificateContent). IsFirstWithout (IsKeptRow (maps_of content) (Contains change.texts) (rows_of change.new.rows)) change.old.rows (c.in-Some.at + 1))
          c.requires.images
          (told_by (λ entries rows. IsFirstWithout (IsKeptRow (maps_of c.args.images.now) (Contains change.texts) rows) entries (c.in-Some.at + 1))
          c.deref.result.now change.old.rows _ (rows_of change.new.rows)
          (c.deref.ensures.value ∙ ap (λ (t : TableContent). t.rows) c.old.view_is) c.requires.rows c.in-Some.ensures.1),
    )
