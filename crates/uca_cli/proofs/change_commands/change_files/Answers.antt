-- A file does not open; or all are opened and run over, and what is returned is kept.
use Rattle.std.proofs.Common.{[], ◌∷◌, inl, inr, refl}
use Rattle.uca_cli.proofs.change_commands.change_files.Goals as goal

pub returns-in-Err : goal.returns-in-Err
returns-in-Err g c = (c.open_editions.new.opener, inl (c.in-Err.role, refl, c.in-Err.ensures, (refl, refl)))

pub returns-in-Ok : goal.returns-in-Ok
returns-in-Ok g c =
    let files = c.in-Ok.files in
    let new = c.run_changes-run.new in (
      c.open_editions.new.opener,
      inr (record {
        before = files.old ∷ files.old_data ∷ files.new ∷ files.new_data ∷ [];
        after = new.old ∷ new.old_data ∷ new.new ∷ new.new_data ∷ [];
        opened = c.in-Ok.ensures;
        runs = record { run = c.run_changes-run.result; runs = c.run_changes-run.ensures; keeps = c.keep_run-kept.ensures };
      }),
    )
