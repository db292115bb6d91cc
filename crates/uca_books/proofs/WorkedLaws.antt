-- The worked books mean what they should, and of each other text a line has a cause.
use Rattle.std.proofs.Common.{◌≡◌, inl, inr, ℕ, suc, List, [], ◌∷◌, ◌++◌, true, length, codes, refl, subst, arith}
use Rattle.uca_values.specs.declared.faults.FaultKind.{FaultKind}
use Rattle.uca_values.specs.declared.faults.FaultKind.TheVariants as kinds
use Rattle.uca_lines.specs.Numbers.{digits}
use Rattle.uca_lines.specs.Files.{FaultInLine, BeginsFault}
use Rattle.uca_lines.specs.declared.files.TheConstants.{TABLE_FORM}
use Rattle.uca_lines.proofs.FileLemmas.{no_value}
use Rattle.uca_books.specs.Books.{BookContent, Start, Letter, IsStart, IsBook}
use Rattle.uca_books.specs.BookTexts.{Said, Says, Cause, IsUnfinished, IsLine, start_line, book_text, book_lines, nothing}
use Rattle.uca_books.specs.inside.Steps.{Gives}
use Rattle.uca_books.specs.Worked.{IsRejected, WorkedBooks}
use Rattle.uca_books.proofs.Exact.{exact, nothing_book}
use Rattle.uca_books.proofs.LineLaws.{named_letter, small_letter, digits_same}
use Rattle.uca_books.proofs.FileLaws.{lines_are, lines_say, means_file, gives_finished}

-- ---- Texts that are no books

-- the header was there, and the other lines list this book
abbrev with_book : BookContent → Said
with_book before = record { started = true; content = before }

-- a line after a book has a cause
rejected : (before : BookContent) → IsBook before → (rest : List ℕ) (kind : FaultKind)
    → BeginsFault TABLE_FORM Cause (with_book before) (suc (length (book_lines before))) rest kind
    → IsRejected (book_text before ++ rest) (suc (length (book_lines before))) kind
rejected before h rest kind begins =
    let fault : FaultInLine TABLE_FORM Says Cause (book_text before ++ rest) (suc (length (book_lines before))) kind = record {
      said = with_book before;
      rest = rest;
      reaches = record {
        front = book_text before;
        before = book_lines before;
        parts = refl;
        divides = lines_are (book_text before) before refl h;
        says = lines_say before h;
        place = refl;
      };
      begins = begins;
    } in
    record {
      fault = inl fault;
      none = λ book means. no_value TABLE_FORM Says Cause IsUnfinished Gives exact gives_finished (book_text before ++ rest)
          (suc (length (book_lines before))) kind book (inl fault) (means_file (book_text before ++ rest) book means);
    }

-- ---- Two small books

abbrev one_letter : BookContent
one_letter = record { letters = 0x1C47 ∷ []; variables = [] }

one_letter_book : IsBook one_letter
one_letter_book = record {
  letters = record { rise = (omega arith, tt); fit = (omega arith, tt); few = omega arith };
  variables = record { rise = tt; fit = tt; few = omega arith };
}

abbrev one_variable : BookContent
one_variable = record { letters = []; variables = 0x0200 ∷ [] }

one_variable_book : IsBook one_variable
one_variable_book = record {
  letters = record { rise = tt; fit = tt; few = omega arith };
  variables = record { rise = (omega arith, tt); fit = (omega arith, tt); few = omega arith };
}

-- ---- The causes

-- 1C47 is a start of level 1
letter_line : IsLine (codes "1 1C47") (Letter 0x1C47)
unfolding start_line digits
letter_line = record { text = refl; fits = (omega arith, omega arith) }

-- 0001 is none
no_first : (start : Start) → ¬ (IsLine (codes "1 0001") start)
unfolding digits
no_first start h =
    let o = (named_letter (codes "1 0001") (codes "0001") refl).only start h in
    let fits : IsStart (Letter o.0) = subst IsStart o.1 h.fits in
    let same : 1 ≡ o.0 = digits_same (codes "0001") 1 o.0 (omega arith) (small_letter o.0 fits) refl o.2 in
    omega (arith, same, fits.0)

pub worked : WorkedBooks
unfolding start_line digits
worked = record {
  plain = record { text = refl; book = nothing_book };
  cells = record {
    text = refl;
    book = record {
      letters = record { rise = (omega arith, (omega arith, tt)); fit = (omega arith, (omega arith, tt)); few = omega arith };
      variables = record { rise = (omega arith, tt); fit = (omega arith, tt); few = omega arith };
    };
  };
  same = rejected one_letter one_letter_book (codes "1 1C47" ++ 10 ∷ []) kinds.Order (record {
    line = codes "1 1C47";
    more = 10 ∷ [];
    parts = refl;
    lacks = (refl, (refl, (refl, (refl, (refl, (refl, tt))))));
    ends = refl;
    stands = λ e. cc;
    cause = inr (inr (inr (inr (inr (inr (inl (refl, refl, (Letter 0x1C47, letter_line, λ follows. omega (arith, follows.1)))))))));
  });
  first = rejected nothing nothing_book (codes "1 0001" ++ 10 ∷ []) kinds.Weight (record {
    line = codes "1 0001";
    more = 10 ∷ [];
    parts = refl;
    lacks = (refl, (refl, (refl, (refl, (refl, (refl, tt))))));
    ends = refl;
    stands = λ e. cc;
    cause = inr (inr (inr (inr (inr (inl (refl, refl, (codes "0001", inl refl), no_first))))));
  });
  late = rejected one_variable one_variable_book (codes "1 1C47" ++ 10 ∷ []) kinds.Order (record {
    line = codes "1 1C47";
    more = 10 ∷ [];
    parts = refl;
    lacks = (refl, (refl, (refl, (refl, (refl, (refl, tt))))));
    ends = refl;
    stands = λ e. cc;
    cause = inr (inr (inr (inr (inr (inr (inl (refl, refl, (Letter 0x1C47, letter_line, λ follows. (let none = follows.0 in cc)))))))));
  });
  no_lf = rejected nothing nothing_book (codes "1 1C47") kinds.Line (record {
    line = codes "1 1C47";
    more = [];
    parts = refl;
    lacks = (refl, (refl, (refl, (refl, (refl, (refl, tt))))));
    ends = tt;
    stands = λ e. cc;
    cause = inr (inr (inl (refl, refl)));
  });
}
