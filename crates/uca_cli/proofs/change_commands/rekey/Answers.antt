-- The file is opened, and then run over.
use Rattle.std.proofs.Common.{[], ◌∷◌, inr}
use Rattle.uca_cli.proofs.change_commands.rekey.Goals as goal

pub returns-in-Ok : goal.returns-in-Ok
returns-in-Ok g c = inr (record {
  before = c.in-Ok.certificate ∷ [];
  after = c.run_rekey.new.certificate ∷ [];
  opened = c.in-Ok.ensures;
  runs = record { run = c.run_rekey.result; runs = rw (c.unwrap_or-weighting.ensures, c.sums_of-sums.ensures) at c.run_rekey.ensures; status = c.done.ensures };
})
