-- The starts with one more are those of a book.
use Rattle.std.proofs.Common.{rules}
use Rattle.uca_books.specs.Books.{BookContent, Variable, IsStart, MayFollow, IsFull}
use Rattle.uca_books.proofs.Orders.{book_more}
use Rattle.uca_books.proofs.starts.Book.push_variable.Goals.{in-Ok, in-Err}
use Rattle.uca_books.proofs.starts.Book.push_variable.Goals as goal

pub invariant_of-self : goal.invariant_of-self
invariant_of-self g c = elim c.match-push.branch [
  | in-Ok w ↦
      let old : BookContent = record { letters = c.self.inside.letters.items; variables = c.self.inside.variables.items } in
      let fits : IsStart (Variable c.args.weight) = search rules in
      let due : MayFollow old (Variable c.args.weight) = search rules in
      let room : ¬ (IsFull old (Variable c.args.weight)) = search rules in
      rw w.in-Ok.ensures.items (book_more old (Variable c.args.weight) c.self.invariant fits due room)
  | in-Err w ↦ rw w.in-Err.ensures.items c.self.invariant
]
