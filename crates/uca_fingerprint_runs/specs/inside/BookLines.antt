-- The lines of a book.
use Rattle.std.specs.Prelude.{ℕ, List}
use Rattle.std.specs.List.{flat_map}
use Rattle.uca_lines.specs.Lines.{ended}
use Rattle.uca_books.specs.BookTexts.{start_line}

-- those of the starts of a level, each with its LF
abbrev pub starts_lines : ℕ → List ℕ → List ℕ
starts_lines level starts = flat_map (λ w. ended (start_line level w)) starts
