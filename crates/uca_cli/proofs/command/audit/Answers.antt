-- All files are opened, and then run over.
use Rattle.std.proofs.Common.{[], ◌∷◌, inr}
use Rattle.uca_cli.proofs.command.audit.Goals as goal

pub returns-in-Ok : goal.returns-in-Ok
returns-in-Ok g c =
    let files = c.in-Ok.files in
    let new = c.run_audit-run.new in
    inr (record {
      before = files.base ∷ files.properties ∷ files.rules ∷ files.tailored ∷ files.certificate ∷ [];
      after = new.base ∷ new.properties ∷ new.rules ∷ new.tailored ∷ new.certificate ∷ [];
      opened = c.in-Ok.ensures;
      runs = record { run = c.run_audit-run.result; runs = c.run_audit-run.ensures; status = c.checked.ensures };
    })
