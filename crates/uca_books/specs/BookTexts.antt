-- Books as text: one line a start. A book has one text, so what bytes mean is an equation with it; the lines of a file
-- matter only for its errors.
use Rattle.std.specs.Prelude.{◌≡◌, ◌≢◌, ◌⊎◌, ℕ, List, [], ◌∷◌, ◌++◌, Bool, true, false, Option, map, codes}
use Rattle.std.specs.List.{flat_map}
use Rattle.uca_lines.specs.Lines.{ended}
use Rattle.uca_lines.specs.Numbers.{digits}
use Rattle.uca_lines.specs.Files as files
use Rattle.uca_lines.specs.declared.files.TheConstants.{TABLE_FORM}
use Rattle.uca_values.specs.declared.faults.FaultKind.{FaultKind}
use Rattle.uca_values.specs.declared.faults.FaultKind.TheVariants as kinds
use Rattle.uca_values.specs.declared.faults.TableFault.{TableFault}
use Rattle.uca_books.specs.Books.{BookContent, Start, Letter, Variable, IsStart, IsBook, MayFollow, IsFull}

-- ---- The text

abbrev pub header : List ℕ
header = codes "@book 1"

-- `LEVEL WEIGHT`, with the digit of the level
unfoldable pub start_line : ℕ → ℕ → List ℕ
start_line level w = level ∷ 32 ∷ digits 4 w

-- the header, then the starts of level 1, then those of level 4
abbrev pub book_lines : BookContent → List (List ℕ)
book_lines book = header ∷ (map (start_line 49) book.letters ++ map (start_line 52) book.variables)

-- the one text of a book: each line ended by LF
abbrev pub book_text : BookContent → List ℕ
book_text book = flat_map ended (book_lines book)

-- the bytes mean the book: they are its text
pub record Means (bytes : List ℕ) (content : BookContent) : Type 0 where
  pub text : bytes ≡ book_text content
  pub book : IsBook content

-- ---- Lines of a file, from the first on

-- whether the header was there, and which starts the other lines list
pub record Said : Type 0 where
  pub started : Bool
  pub content : BookContent

abbrev pub nothing : BookContent
nothing = record { letters = []; variables = [] }

-- the lines that say this
abbrev pub said_lines : Bool → BookContent → List (List ℕ)
said_lines false content = []
said_lines true content = book_lines content

-- the lines are acceptable in order, and say this
pub record Says (lines : List (List ℕ)) (said : Said) : Type 0 where
  pub text : lines ≡ said_lines said.started said.content
  pub book : IsBook said.content
  pub none : said.started ≡ false → said.content ≡ nothing

-- ---- Why bytes are rejected

abbrev pub line_of : Start → List ℕ
line_of (Letter w) = start_line 49 w
line_of (Variable w) = start_line 52 w

-- the line lists this start
pub record IsLine (line : List ℕ) (start : Start) : Type 0 where
  pub text : line ≡ line_of start
  pub fits : IsStart start

-- the line begins with a level and a space
abbrev pub NamesLevel : List ℕ → Type 0
NamesLevel line = (rest : List ℕ) × ((line ≡ 49 ∷ 32 ∷ rest) ⊎ (line ≡ 52 ∷ 32 ∷ rest))

-- Why a line is rejected, the first of these. It is not the header where the header must come, it begins otherwise than
-- with a level and a space, or what follows these is no start. Or the start does not come after all that is listed before
-- it, or is one too many.
abbrev pub Cause : Said → List ℕ → FaultKind → Type 0
Cause said line kind =
    ((kind ≡ kinds.Order) × (said.started ≡ false) × (line ≢ header))
    ⊎ ((kind ≡ kinds.Line) × (said.started ≡ true) × ¬ (NamesLevel line))
    ⊎ ((kind ≡ kinds.Weight) × (said.started ≡ true) × NamesLevel line × ((start : Start) → ¬ (IsLine line start)))
    ⊎ ((kind ≡ kinds.Order) × (said.started ≡ true) × ((start : Start) × IsLine line start × ¬ (MayFollow said.content start)))
    ⊎ ((kind ≡ kinds.Limit) × (said.started ≡ true) × ((start : Start) × IsLine line start × MayFollow said.content start × IsFull said.content start))

-- a file may not end before its header
abbrev pub IsUnfinished : Said → Type 0
IsUnfinished said = said.started ≡ false

-- why known bytes are rejected, when the source has `left` left of them
abbrev pub Refuses : List ℕ → Option (List ℕ) → TableFault → Type 0
Refuses bytes left fault = files.Refuses TABLE_FORM Says Cause IsUnfinished bytes left fault.line fault.kind
