-- Both files are opened, and then run over.
use Rattle.std.proofs.Common.{[], ◌∷◌, inr}
use Rattle.uca_cli.proofs.book_commands.print_book.Goals as goal

pub returns-in-Ok : goal.returns-in-Ok
returns-in-Ok g c = inr (record {
  before = c.in-Ok.certificate ∷ c.in-Ok.book ∷ [];
  after = c.run_book.new.certificate ∷ c.run_book.new.book ∷ [];
  opened = c.in-Ok.ensures;
  runs = record { run = c.run_book.result; runs = c.run_book.ensures; status = c.done.ensures };
})
