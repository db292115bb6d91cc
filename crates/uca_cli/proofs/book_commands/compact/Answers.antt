-- The file is opened, and then run over.
use Rattle.std.proofs.Common.{[], ◌∷◌, inr}
use Rattle.uca_cli.proofs.book_commands.compact.Goals as goal

pub returns-in-Ok : goal.returns-in-Ok
returns-in-Ok g c = inr (record {
  before = c.in-Ok.book ∷ [];
  after = c.run_compact-run.new.book ∷ [];
  opened = c.in-Ok.ensures;
  runs = record { run = c.run_compact-run.result; runs = rw c.unwrap_or-weighting.ensures at c.run_compact-run.ensures; status = c.counted.ensures };
})
