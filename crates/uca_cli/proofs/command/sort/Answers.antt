-- Both files are opened, and then run over.
use Rattle.std.proofs.Common.{[], ◌∷◌, inr}
use Rattle.uca_cli.proofs.command.sort.Goals as goal

pub returns-in-Ok : goal.returns-in-Ok
returns-in-Ok g c = inr (record {
  before = c.in-Ok.table ∷ c.in-Ok.properties ∷ [];
  after = c.run_sort_in.new.table ∷ c.run_sort_in.new.properties ∷ [];
  opened = c.in-Ok.ensures;
  runs = record { run = c.run_sort_in.result; runs = rw c.asked_for.ensures at c.run_sort_in.ensures; status = c.done.ensures };
})
