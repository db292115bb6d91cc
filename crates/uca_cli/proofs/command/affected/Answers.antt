-- A file does not open; or both are opened, and then run over.
use Rattle.std.proofs.Common.{[], ◌∷◌, inl, inr, refl}
use Rattle.uca_cli.proofs.command.affected.Goals as goal

pub returns-in-Err : goal.returns-in-Err
returns-in-Err g c = inl (c.in-Err.role, refl, rw c.affected_role.ensures at c.in-Err.ensures, refl)

pub returns-in-Ok : goal.returns-in-Ok
returns-in-Ok g c = inr (record {
  before = c.in-Ok.properties ∷ c.in-Ok.rules ∷ [];
  after = c.print_lines.new.properties ∷ c.print_lines.new.rules ∷ [];
  opened = c.in-Ok.ensures;
  runs = record { run = c.print_lines.result; runs = c.print_lines.ensures; status = c.done.ensures };
})
