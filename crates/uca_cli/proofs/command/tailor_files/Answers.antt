-- A file does not open; or all are opened and run over, and what is returned is kept.
use Rattle.std.proofs.Common.{[], ◌∷◌, inl, inr, refl}
use Rattle.uca_cli.proofs.command.tailor_files.Goals as goal

pub returns-in-Err : goal.returns-in-Err
returns-in-Err g c = (c.open_three.new.opener, inl (c.in-Err.role, refl, c.in-Err.ensures, (refl, refl)))

pub returns-in-Ok : goal.returns-in-Ok
returns-in-Ok g c =
    let new = c.run_tailor-run.new in (
      c.open_three.new.opener,
      inr (record {
        before = c.in-Ok.table ∷ c.in-Ok.properties ∷ c.in-Ok.rules ∷ [];
        after = new.base ∷ new.properties ∷ new.rules ∷ [];
        opened = c.in-Ok.ensures;
        runs = record { run = c.run_tailor-run.result; runs = c.run_tailor-run.ensures; keeps = c.keep_run.ensures };
      }),
    )
