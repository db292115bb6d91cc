-- Changes as text: one line a text or a range. A list of changes has one spelling, so what bytes mean is an equation with its text; the
-- lines of a file matter only for its errors.
use Rattle.std.specs.Prelude.{◌≡◌, ◌≢◌, ◌⊎◌, ℕ, List, [], ◌∷◌, ◌++◌, Bool, true, false, Option, map, codes, length, ◌+◌, ◌≤◌, ⊤}
use Rattle.std.specs.Char.{IsScalar}
use Rattle.std.specs.List.{flat_map, AllByRecursion}
use Rattle.uca_lines.specs.Lines.{ended}
use Rattle.uca_lines.specs.Files as files
use Rattle.uca_lines.specs.declared.files.TheConstants.{TABLE_FORM}
use Rattle.uca_values.specs.declared.CodePointRange.{CodePointRange}
use Rattle.uca_values.specs.declared.faults.FaultKind.{FaultKind}
use Rattle.uca_values.specs.declared.faults.FaultKind.TheVariants as kinds
use Rattle.uca_values.specs.declared.faults.TableFault.{TableFault}
use Rattle.uca_table.specs.Canonical.{point_text}
use Rattle.uca_change_files.specs.Changes.{ChangeContent, Item, OfText, OfRange, IsItem, IsChangeList, MayFollow}

-- ---- The text

abbrev pub header : List ℕ
header = codes "@changes 1"

-- a code point after a space
unfoldable pub spaced : ℕ → List ℕ
spaced c = 32 ∷ point_text c

-- `text CP CP ..`
unfoldable pub text_line : List ℕ → List ℕ
text_line text = codes "text" ++ flat_map spaced text

-- `range FIRST..LAST`
unfoldable pub range_line : CodePointRange → List ℕ
range_line r = codes "range " ++ (point_text r.first ++ 46 ∷ 46 ∷ point_text r.last)

-- the header, then the texts, then the ranges
abbrev pub change_lines : ChangeContent → List (List ℕ)
change_lines content = header ∷ (map text_line content.texts ++ map range_line content.ranges)

-- the one text of a list of changes: each line ended by LF
abbrev pub changes_text : ChangeContent → List ℕ
changes_text content = flat_map ended (change_lines content)

-- texts of code points that are no surrogates
abbrev pub AreScalars : List (List ℕ) → Type 0
AreScalars texts = AllByRecursion (AllByRecursion IsScalar) texts

-- the bytes mean the changes: they are their text
pub record Means (bytes : List ℕ) (content : ChangeContent) : Type 0 where
  pub text : bytes ≡ changes_text content
  pub list : IsChangeList content
  pub scalars : AreScalars content.texts

-- ---- Lines of a file, from the first on

-- whether the header was there, and what the other lines list
pub record Said : Type 0 where
  pub started : Bool
  pub content : ChangeContent

abbrev pub nothing : ChangeContent
nothing = record { texts = []; ranges = [] }

-- the lines that say this
abbrev pub said_lines : Bool → ChangeContent → List (List ℕ)
said_lines false content = []
said_lines true content = change_lines content

-- the lines are acceptable in order, and say this
pub record Says (lines : List (List ℕ)) (said : Said) : Type 0 where
  pub text : lines ≡ said_lines said.started said.content
  pub list : IsChangeList said.content
  pub scalars : AreScalars said.content.texts
  pub none : said.started ≡ false → said.content ≡ nothing

-- ---- Why bytes are rejected

abbrev pub item_line : Item → List ℕ
item_line (OfText text) = text_line text
item_line (OfRange r) = range_line r

abbrev pub HasScalars : Item → Type 0
HasScalars (OfText text) = AllByRecursion IsScalar text
HasScalars (OfRange r) = ⊤

-- the line lists this
pub record IsLine (line : List ℕ) (item : Item) : Type 0 where
  pub text : line ≡ item_line item
  pub fits : IsItem item
  pub scalars : HasScalars item

-- Why a line is rejected, the first of these. It is not the header where the header must come, or it lists nothing. Or
-- what it lists does not come after all that is listed before it, or is one too many.
abbrev pub Cause : Said → List ℕ → FaultKind → Type 0
Cause said line kind =
    ((kind ≡ kinds.Order) × (said.started ≡ false) × (line ≢ header))
    ⊎ ((kind ≡ kinds.Line) × (said.started ≡ true) × ((item : Item) → ¬ (IsLine line item)))
    ⊎ ((kind ≡ kinds.Order) × (said.started ≡ true) × ((item : Item) × IsLine line item × ¬ (MayFollow said.content item)))
    ⊎ ((kind ≡ kinds.Limit) × (said.started ≡ true) × ((item : Item) × IsLine line item × MayFollow said.content item
    × (999999 ≤ length said.content.texts + length said.content.ranges)))

-- a file may not end before its header
abbrev pub IsUnfinished : Said → Type 0
IsUnfinished said = said.started ≡ false

-- why known bytes are rejected, when the source has `left` left of them
abbrev pub Refuses : List ℕ → Option (List ℕ) → TableFault → Type 0
Refuses bytes left fault = files.Refuses TABLE_FORM Says Cause IsUnfinished bytes left fault.line fault.kind
