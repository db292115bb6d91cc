-- The text of a book, line by line.
use Rattle.std.proofs.Common.{◌≡◌, ◌<◌, ◌+◌, ℕ, List, [], ◌∷◌, ◌++◌, Option, Some, None, IfSome, length, take, get_or, refl, sym, ap, ◌∙◌, append_assoc, append-nil}
use Rattle.std.specs.List.{flat_map}
use Rattle.std.proofs.lemmas.Grind.{flat_map-append}
use Rattle.std.proofs.lemmas.List.{take_more}
use Rattle.sha2.specs.Sha256.{sha256}
use Rattle.uca_lines.specs.Lines.{ended}
use Rattle.uca_books.specs.Books.{BookContent}
use Rattle.uca_books.specs.BookTexts.{Means, book_text, header, start_line}
use Rattle.uca_books.specs.inside.Steps.{starts_text}
use Rattle.uca_books.proofs.WriteLaws.{book_is}
use Rattle.uca_fingerprint_runs.specs.inside.BookLines.{starts_lines}

-- the header, then the lines of both levels
pub text_is : (book : BookContent) → (ended header ++ starts_lines 49 book.letters) ++ starts_lines 52 book.variables ≡ book_text book
unfolding starts_text
text_is book =
    append_assoc (ended header) (starts_lines 49 book.letters) (starts_lines 52 book.variables)
    ∙ ap (λ l. ended header ++ (starts_lines 49 book.letters ++ l)) (sym (append-nil (starts_lines 52 book.variables))) ∙ sym (book_is book)

-- the line of one more start
pub starts_more : (level : ℕ) (starts : List ℕ) (i : ℕ) (text line : List ℕ) → i < length starts → line ≡ ended (start_line level (get_or starts i 0))
    → (text ++ starts_lines level (take i starts)) ++ line ≡ text ++ starts_lines level (take (i + 1) starts)
starts_more level starts i text line within is =
    let f = λ (w : ℕ). ended (start_line level w) in
    append_assoc text (starts_lines level (take i starts)) line
    ∙ ap (λ l. text ++ l) (ap (λ l. starts_lines level (take i starts) ++ l) (is ∙ sym (append-nil (f (get_or starts i 0))))
    ∙ sym (flat_map-append f (take i starts) (get_or starts i 0 ∷ [])) ∙ ap (flat_map f) (sym (take_more starts i 0 within)))

-- the sum of the text is that of the bytes
pub sum_of_bytes : (known : Option (List ℕ)) (book : BookContent) (sum : List ℕ) → sum ≡ sha256 (book_text book) → IfSome known (λ bytes. Means bytes book)
    → IfSome known (λ bytes. sum ≡ sha256 bytes)
sum_of_bytes None book sum is means = tt
sum_of_bytes (Some bytes) book sum is means = is ∙ ap sha256 (sym means.text)
