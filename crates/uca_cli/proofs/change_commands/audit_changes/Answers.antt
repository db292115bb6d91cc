-- All files are opened, and then run over.
use Rattle.std.proofs.Common.{[], ◌∷◌, inr}
use Rattle.uca_cli.proofs.change_commands.audit_changes.Goals as goal

pub returns-in-Ok : goal.returns-in-Ok
returns-in-Ok g c =
    let files = c.in-Ok.files in
    let editions = files.editions in
    let new = c.run_audit_changes-run.new in
    inr (record {
      before = editions.old ∷ editions.old_data ∷ editions.new ∷ editions.new_data ∷ files.changes ∷ files.certificate ∷ [];
      after = new.old ∷ new.old_data ∷ new.new ∷ new.new_data ∷ new.changes ∷ new.certificate ∷ [];
      opened = c.in-Ok.ensures;
      runs = record { run = c.run_audit_changes-run.result; runs = c.run_audit_changes-run.ensures; status = c.checked.ensures };
    })
