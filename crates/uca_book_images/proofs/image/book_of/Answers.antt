-- The book has the starts that were added.
use Rattle.std.proofs.Common.{◌∙◌, ap, List, ℕ, ◌++◌}
use Rattle.uca_books.specs.Books.{BookContent}
use Rattle.uca_book_images.proofs.BookImages.{book_is}
use Rattle.uca_book_images.proofs.image.book_of.Goals as goal

pub returns : goal.returns
returns g c =
    book_is c.add_variables.new.book c.args.letters.now c.args.variables.now
    (c.in_ok-add_variables.ensures.letters ∙ c.in_ok-add_letters.ensures.letters
    ∙ ap (λ (b : BookContent). b.letters ++ c.args.letters.now) c.new-book.ensures)
    (c.in_ok-add_variables.ensures.variables
    ∙ ap (λ (xs : List ℕ). xs ++ c.args.variables.now) (c.in_ok-add_letters.ensures.variables ∙ ap (λ (b : BookContent). b.variables) c.new-book.ensures))
