-- What is opened has the book that was read.
use Rattle.std.proofs.Common.{◌∙◌, Some, ap, inl, inr, refl}
use Rattle.uca_owned.specs.Owned.{keying_in}
use Rattle.uca_c.specs.OpenCollators.{OpenState, keying_at}
use Rattle.uca_c.proofs.opening.open_compact.Goals as goal

pub returns-in-Err-clause-only : goal.returns-in-Err-clause-only
returns-in-Err-clause-only c asked meant properties content asks means = inl (c.in-Err.ensures.only asked meant properties asks)

-- a rejected book comes after files that could be opened
pub returns-in-Err-book_of-clause-rejected : goal.returns-in-Err-book_of-clause-rejected
returns-in-Err-book_of-clause-rejected c =
    inr (
      refl,
      (keying_in c.in-Ok.opened, c.in-Ok.ensures.found),
      record {
        fault = c.in-Err-book_of.fault;
        cause = c.in-Err-book_of.ensures.rejected;
        line = c.file_error.ensures.line;
        kind = c.file_error.ensures.kind;
      },
    )

pub returns-in-Ok-book_of-clause-only : goal.returns-in-Ok-book_of-clause-only
returns-in-Ok-book_of-clause-only c asked meant properties content asks means = (
  ap keying_at c.with_book.ensures ∙ c.in-Ok.ensures.only asked meant properties asks,
  ap (λ (s : OpenState). s.book) c.with_book.ensures ∙ ap Some (c.in-Ok-book_of.ensures.only content means),
)
