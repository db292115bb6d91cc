-- The text of a book, part by part.
use Rattle.std.proofs.Common.{◌≡◌, ℕ, ◌*◌, List, [], ◌∷◌, ◌++◌, length, map, get_or, refl, sym, ap, ◌∙◌, arith, length-append, append-nil}
use Rattle.std.specs.List.{flat_map}
use Rattle.std.proofs.lemmas.Grind.{flat_map-append}
use Rattle.std.proofs.lemmas.List.Folds.{flat_map-map}
use Rattle.uca_lines.specs.Lines.{ended}
use Rattle.uca_lines.specs.OutputBuffer.{BufferState}
use Rattle.uca_lines.specs.Buffered.{count_of, HasRoom}
use Rattle.uca_lines.proofs.ManyDigits.{four_digits_are}
use Rattle.uca_lines.specs.Numbers.{digits}
use Rattle.uca_lines.proofs.BufferedLemmas.{part}
use Rattle.uca_books.specs.Books.{BookContent, IsBook}
use Rattle.uca_books.specs.BookTexts.{Means, header, start_line, book_text}
use Rattle.uca_books.specs.inside.Steps.{starts_text}
use Rattle.uca_books.proofs.FileLaws.{length-start_line}

-- the line of a start, byte by byte
pub line_bytes_are : (level w : ℕ) (four : List ℕ) → four ≡ digits 4 w
    → level ∷ 32 ∷ get_or four 0 0 ∷ get_or four 1 0 ∷ get_or four 2 0 ∷ get_or four 3 0 ∷ 10 ∷ [] ≡ ended (start_line level w)
unfolding start_line
line_bytes_are level w four h = rw (h, four_digits_are w) refl

-- the header and the starts of both levels
abbrev pub book_parts : BookContent → List (List ℕ)
book_parts book = ended header ∷ starts_text 49 book.letters ∷ starts_text 52 book.variables ∷ []

pub book_is : (book : BookContent) → book_text book ≡ flat_map part (book_parts book)
unfolding starts_text
book_is book = ap (λ l. ended header ++ l) (
    flat_map-append ended (map (start_line 49) book.letters) (map (start_line 52) book.variables)
    ∙ ap (λ l. l ++ flat_map ended (map (start_line 52) book.variables)) (flat_map-map ended (start_line 49) book.letters)
    ∙ ap (λ l. flat_map (λ w. ended (start_line 49 w)) book.letters ++ l)
    (flat_map-map ended (start_line 52) book.variables ∙ sym (append-nil (flat_map (λ w. ended (start_line 52 w)) book.variables)))
    )

-- each line has seven bytes
length-starts_text : (level : ℕ) (starts : List ℕ) → length (starts_text level starts) ≡ length starts * 7
unfolding starts_text
length-starts_text level [] = refl
length-starts_text level (w ∷ ws) = omega (
  arith,
  length-append (ended (start_line level w)) (flat_map (λ v. ended (start_line level v)) ws),
  length-append (start_line level w) (10 ∷ []),
  length-start_line level w,
  length-starts_text level ws,
)

-- there is room for a book at the beginning
pub book_fits : (book : BookContent) (buffer : BufferState) → count_of buffer ≡ 0 → IsBook book → HasRoom buffer (length (book_text book))
book_fits book buffer none h =
    let letters = starts_text 49 book.letters in
    let variables = starts_text 52 book.variables in
    omega (
      arith,
      none,
      ap length (book_is book),
      length-append (ended header) (letters ++ (variables ++ [])),
      length-append letters (variables ++ []),
      length-append variables [],
      length-starts_text 49 book.letters,
      length-starts_text 52 book.variables,
      h.letters.few,
      h.variables.few,
    )

-- the text of a book means it
pub means_itself : (book : BookContent) → IsBook book → Means (book_text book) book
means_itself book h = record { text = refl; book = h }
