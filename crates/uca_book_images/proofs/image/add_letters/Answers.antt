-- A start is added after those before it.
use Rattle.std.proofs.Common.{◌∙◌, ap, sym, refl, append-nil}
use Rattle.uca_books.specs.Books.{BookContent}
use Rattle.uca_book_images.proofs.BookImages.{added_more, added_all}
use Rattle.uca_book_images.proofs.image.add_letters.Goals as goal

pub loop-start-init : goal.loop-start-init
loop-start-init g c = record { letters = sym (append-nil c.args.book.now.letters); variables = refl }

pub loop-start-preserved : goal.loop-start-preserved
loop-start-preserved g c = record {
  letters = added_more c.args.book.now.letters c.args.starts.now c.loop-start.book.letters c.push_letter.new.self.letters c.loop-start.start-index c.loop-start-test.true
      c.loop-start.invariant.letters (ap (λ (b : BookContent). b.letters) c.in-Ok.ensures.ok.adds);
  variables = ap (λ (b : BookContent). b.variables) c.in-Ok.ensures.ok.adds ∙ c.loop-start.invariant.variables;
}

pub returns-clause-letters : goal.returns-clause-letters
returns-clause-letters g c =
    added_all c.args.book.now.letters c.args.starts.now c.loop-start.book.letters c.loop-start.start-index c.loop-start-test.false c.loop-start.invariant.letters
