-- The starts so far are added.
use Rattle.std.proofs.Common.{◌≡◌, ◌++◌, take}
use Rattle.uca_book_images.proofs.image.add_variables.Given as goal

abbrev pub invariant-loop-start : goal.invariant-loop-start
invariant-loop-start g l = record {
  variables : l.book.variables ≡ l.initial.book.variables ++ take l.start-index l.starts;
  letters : l.book.letters ≡ l.initial.book.letters;
}
