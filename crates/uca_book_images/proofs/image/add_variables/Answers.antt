-- A start is added after those before it.
use Rattle.std.proofs.Common.{◌∙◌, ap, sym, refl, append-nil}
use Rattle.uca_books.specs.Books.{BookContent}
use Rattle.uca_book_images.proofs.BookImages.{added_more, added_all}
use Rattle.uca_book_images.proofs.image.add_variables.Goals as goal

pub loop-start-init : goal.loop-start-init
loop-start-init g c = record { variables = sym (append-nil c.args.book.now.variables); letters = refl }

pub loop-start-preserved : goal.loop-start-preserved
loop-start-preserved g c = record {
  variables = added_more c.args.book.now.variables c.args.starts.now c.loop-start.book.variables c.push_variable.new.self.variables c.loop-start.start-index c.loop-start-test.true
      c.loop-start.invariant.variables (ap (λ (b : BookContent). b.variables) c.in-Ok.ensures.ok.adds);
  letters = ap (λ (b : BookContent). b.letters) c.in-Ok.ensures.ok.adds ∙ c.loop-start.invariant.letters;
}

pub returns-clause-variables : goal.returns-clause-variables
returns-clause-variables g c =
    added_all c.args.book.now.variables c.args.starts.now c.loop-start.book.variables c.loop-start.start-index c.loop-start-test.false c.loop-start.invariant.variables
