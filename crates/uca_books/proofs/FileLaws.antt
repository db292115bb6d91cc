-- Whole books: their lines are such as a file may have, so bytes mean one book at most.
use Rattle.std.proofs.Common.{◌≡◌, inl, ℕ, ◌/◌, ◌%◌, ◌<◌, ◌≤◌, true, false, List, [], ◌∷◌, length, map, Option, Some, None, Result, Ok, Err, IfSome, IfOk, IfErr, MatchResult, refl, sym, ap, ◌∙◌, arith, length-append}
use Rattle.std.specs.List.{AllByRecursion}
use Rattle.std.proofs.lemmas.Bool.Decides.{nat_tests}
use Rattle.std.proofs.lemmas.List.{length-map}
use Rattle.uca_weights.proofs.Lists.{each_append}
use Rattle.uca_values.specs.declared.faults.TableFault.{TableFault}
use Rattle.uca_lines.specs.Lines.{is_lf, Lacks}
use Rattle.uca_lines.specs.Files as files
use Rattle.uca_lines.specs.Files.{IsFileLine, AreLines, RefusesLine}
use Rattle.uca_lines.specs.FileStops.{IsStop}
use Rattle.uca_lines.specs.Numbers.{upper_digit}
use Rattle.uca_lines.specs.declared.files.TheConstants.{TABLE_FORM}
use Rattle.uca_lines.proofs.DigitLemmas.{length-digits}
use Rattle.uca_lines.proofs.ManyDigits.{four_digits_are, last_digit}
use Rattle.uca_lines.proofs.FileLemmas.{one_value, only_result}
use Rattle.uca_books.specs.Books.{BookContent, IsBook}
use Rattle.uca_books.specs.BookTexts.{Said, Says, Cause, IsUnfinished, Means, Refuses, start_line, book_lines, book_text}
use Rattle.uca_books.specs.inside.Steps.{Gives}
use Rattle.uca_books.proofs.Exact.{exact}

-- ---- A file may have these lines

-- each has six bytes
pub length-start_line : (level w : ℕ) → length (start_line level w) ≡ 6
unfolding start_line
length-start_line level w = omega (arith, length-digits 4 w)

-- a byte above LF is none
not_lf : (b : ℕ) → 10 < b → is_lf b ≡ false
not_lf b h = grind (arith, nat_tests)

-- digits lie above it
upper_digit_is_high : (d : ℕ) → 10 < upper_digit d
upper_digit_is_high d = grind (arith, nat_tests)

-- so no byte of a line is LF
start_line_lacks_lf : (level w : ℕ) → 10 < level → Lacks is_lf (start_line level w)
unfolding start_line
start_line_lacks_lf level w h =
    let digit = λ (m : ℕ). not_lf (last_digit m) (upper_digit_is_high (m % 16)) in
    rw (four_digits_are w) (not_lf level h, (refl, (digit (w / 0x1000), (digit (w / 0x100), (digit (w / 16), (digit w, tt))))))

start_file_lines : (level : ℕ) → 10 < level → (starts : List ℕ) → AllByRecursion (IsFileLine TABLE_FORM) (map (start_line level) starts)
start_file_lines level h [] = tt
start_file_lines level h (w ∷ ws) =
    (record { lacks = start_line_lacks_lf level w h; short = omega (arith, length-start_line level w) }, start_file_lines level h ws)

few_lines : (book : BookContent) → IsBook book → length (book_lines book) ≤ 1000000
few_lines book h = omega (
  arith,
  length-append (map (start_line 49) book.letters) (map (start_line 52) book.variables),
  length-map book.letters (start_line 49),
  length-map book.variables (start_line 52),
  h.letters.few,
  h.variables.few,
)

-- the text of a book is these lines
pub lines_are : (bytes : List ℕ) (book : BookContent) → bytes ≡ book_text book → IsBook book → AreLines TABLE_FORM bytes (book_lines book)
lines_are bytes book text h = record {
  parts = text;
  each = (
    record { lacks = (refl, (refl, (refl, (refl, (refl, (refl, (refl, tt))))))); short = omega arith },
    each_append (IsFileLine TABLE_FORM) (map (start_line 49) book.letters) (map (start_line 52) book.variables)
        (start_file_lines 49 (omega arith) book.letters) (start_file_lines 52 (omega arith) book.variables),
  );
  count = few_lines book h;
}

-- and they say it
pub lines_say : (book : BookContent) → IsBook book → Says (book_lines book) (record { started = true; content = book })
lines_say book h = record { text = refl; book = h; none = λ e. absurd (cc) }

pub means_file : (bytes : List ℕ) (content : BookContent) → Means bytes content → files.Means TABLE_FORM Says Gives bytes content
means_file bytes content h = (
  record { started = true; content = content },
  (
    length (book_lines content),
    record {
      lines = book_lines content;
      divides = lines_are bytes content h.text h.book;
      says = lines_say content h.book;
      many = refl;
    },
  ),
  refl,
)

-- ---- What bytes mean

gives_one : (s : Said) (v w : BookContent) → Gives s v → Gives s w → v ≡ w
gives_one s v w h k = ap (λ (x : Said). x.content) (sym h ∙ k)

pub gives_finished : (s : Said) (v : BookContent) → Gives s v → IsUnfinished s → ⊥
gives_finished s v h unfinished = let e : true ≡ false = sym (ap (λ (x : Said). x.started) h) ∙ unfinished in cc

-- bytes mean one book
pub means_same : (bytes : List ℕ) (a b : BookContent) → Means bytes a → Means bytes b → a ≡ b
means_same bytes a b h k = one_value TABLE_FORM Says Gives exact.same gives_one bytes a b (means_file bytes a h) (means_file bytes b k)

-- a line that is rejected, where the bytes are known
pub rejected_line : (known left : Option (List ℕ)) (fault : TableFault)
    → IfSome known (λ bytes. RefusesLine TABLE_FORM Says Cause bytes left fault.line fault.kind) → IfSome known (λ bytes. Refuses bytes left fault)
rejected_line None left fault h = tt
rejected_line (Some bytes) left fault h = inl h

-- what bytes mean is returned, unless reading stops
pub only_known : (known left : Option (List ℕ)) (r : Result BookContent TableFault) → IfSome known (λ bytes. IfOk r (Means bytes))
    → IfSome known (λ bytes. IfErr r (Refuses bytes left))
    → IfSome known (λ bytes. (content : BookContent) → Means bytes content → MatchResult r (λ read. read ≡ content) (λ fault. IsStop fault.kind))
only_known None left r found fault = tt
only_known (Some bytes) left (Ok read) found fault = λ content means. means_same bytes read content found means
only_known (Some bytes) left (Err e) found fault = λ content means.
    only_result {X = BookContent} {F = TableFault} (λ x. x) (λ f. f.line) (λ f. f.kind) TABLE_FORM Says Cause IsUnfinished Gives exact gives_one
    gives_finished bytes left (Err e) tt fault content (means_file bytes content means)
