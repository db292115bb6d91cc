-- How lines are read and written.
use Rattle.std.specs.Prelude.{◌≡◌, ◌⊎◌, ℕ, List, true, false}
use Rattle.std.specs.List.{flat_map}
use Rattle.uca_values.specs.declared.faults.FaultKind.{FaultKind}
use Rattle.uca_values.specs.declared.faults.FaultKind.TheVariants as kinds
use Rattle.uca_lines.specs.Lines.{ended}
use Rattle.uca_lines.specs.Numbers.{digits}
use Rattle.uca_books.specs.Books.{BookContent, Start, IsStart, MayFollow, IsFull, Adds}
use Rattle.uca_books.specs.BookTexts.{Said, header, start_line, IsLine}

-- the start whose digits the text is, is added
abbrev pub AddsSpelled : (ℕ → Start) → List ℕ → BookContent → BookContent → Type 0
AddsSpelled start text old new = (w : ℕ) × (text ≡ digits 4 w) × Adds old (start w) new

-- why it is not
abbrev pub RefusesSpelled : (ℕ → Start) → List ℕ → BookContent → FaultKind → Type 0
RefusesSpelled start text book kind =
    ((kind ≡ kinds.Weight) × ((w : ℕ) → text ≡ digits 4 w → ¬ (IsStart (start w))))
    ⊎ ((kind ≡ kinds.Order) × ((w : ℕ) × (text ≡ digits 4 w) × IsStart (start w) × ¬ (MayFollow book (start w))))
    ⊎ ((kind ≡ kinds.Limit) × ((w : ℕ) × (text ≡ digits 4 w) × IsStart (start w) × MayFollow book (start w) × IsFull book (start w)))

-- after lines that say the old the line may follow, and then they say the new
abbrev pub Takes : Said → List ℕ → Said → Type 0
Takes old line new =
    ((old.started ≡ false) × (line ≡ header) × (new ≡ record { started = true; content = old.content }))
    ⊎ ((old.started ≡ true) × (new.started ≡ true) × ((start : Start) × IsLine line start × Adds old.content start new.content))

-- the lines say a book, as the header was there
abbrev pub Gives : Said → BookContent → Type 0
Gives said content = said ≡ record { started = true; content = content }

-- the lines of the starts of a level, each with its LF
unfoldable pub starts_text : ℕ → List ℕ → List ℕ
starts_text level starts = flat_map (λ w. ended (start_line level w)) starts
