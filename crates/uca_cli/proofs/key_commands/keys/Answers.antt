-- The files are opened, and then run over.
use Rattle.std.specs.Prelude.{option_to_list}
use Rattle.std.proofs.Common.{◌∷◌, inr}
use Rattle.uca_cli.proofs.key_commands.keys.Goals as goal

pub returns-in-Ok : goal.returns-in-Ok
returns-in-Ok g c = inr (record {
  before = c.in-Ok.table ∷ c.in-Ok.properties ∷ option_to_list c.in-Ok.book;
  after = c.run_keys_as.new.table ∷ c.run_keys_as.new.properties ∷ option_to_list c.run_keys_as.new.book;
  opened = c.in-Ok.ensures.opened;
  runs = record {
    run = c.run_keys_as.result;
    runs = rw (c.asked_for.ensures, c.output_of.ensures, c.in-Ok.ensures.booked) at c.run_keys_as.ensures;
    status = c.done.ensures;
  };
})
