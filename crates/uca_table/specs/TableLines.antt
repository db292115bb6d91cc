-- What the lines of a table file say, and why a line is rejected.
use Rattle.std.specs.Prelude.{◌≡◌, ◌≢◌, ℕ, ◌⊎◌, ◌==◌, Bool, true, false, List, [], ◌∷◌, ◌++◌, map, Option, Some, None, IsSome}
use Rattle.std.specs.List.{AllZip}
use Rattle.std.specs.Option.{option_to_list}
use Rattle.uca_weights.specs.declared.Weighting.{Weighting}
use Rattle.uca_values.specs.declared.faults.FaultKind.{FaultKind}
use Rattle.uca_values.specs.declared.faults.FaultKind.TheVariants as kinds
use Rattle.uca_values.specs.declared.faults.TableFault.{TableFault}
use Rattle.uca_lines.specs.Fields.{text_of, word_of, after_word}
use Rattle.uca_values.specs.declared.ImplicitRange.{ImplicitRange}
use Rattle.uca_values.specs.Content.{Entry, TableContent}
use Rattle.uca_lines.specs.declared.files.TheConstants.{TABLE_FORM}
use Rattle.uca_lines.specs.Files
use Rattle.uca_table.specs.TableSoFar.{TableSoFar, IsTableSoFar}
use Rattle.uca_table.specs.Headers.{IsVersion, IsSetting, IsRange, RangeCause}
use Rattle.uca_table.specs.CanonicalWords.{at_version, at_variable, at_ranges}
use Rattle.uca_table.specs.Rows.{IsRow, RowCause}

-- ---- What lines say

-- what a line says
pub data Item : Type 0 where
  Nothing : Item
  OfVersion : (name : List ℕ) → Item
  OfSetting : (setting : Weighting) → Item
  OfRange : (range : ImplicitRange) → Item
  OfRow : (row : Entry) → Item

-- the text of a line, which has neither comment nor blanks at its ends, says this
abbrev pub IsItem : List ℕ → Item → Type 0
IsItem text Nothing = text ≡ []
IsItem text (OfVersion name) = IsVersion text name
IsItem text (OfSetting setting) = IsSetting text setting
IsItem text (OfRange r) = IsRange text r
IsItem text (OfRow row) = IsRow text row

abbrev pub IsLine : List ℕ → Item → Type 0
IsLine line item = IsItem (text_of line) item

-- the items that say something
abbrev pub said : List Item → List Item
said [] = []
said (Nothing ∷ items) = said items
said (OfVersion name ∷ items) = OfVersion name ∷ said items
said (OfSetting setting ∷ items) = OfSetting setting ∷ said items
said (OfRange r ∷ items) = OfRange r ∷ said items
said (OfRow row ∷ items) = OfRow row ∷ said items

-- the version and the setting, where there are any, then the ranges, and then the rows
abbrev pub in_order : TableSoFar → List Item
in_order b = map OfVersion (option_to_list b.version) ++ (map OfSetting (option_to_list b.setting) ++ (map OfRange b.ranges ++ map OfRow b.rows))

-- the lines say, in order, what is begun
pub record Says (lines : List (List ℕ)) (b : TableSoFar) : Type 0 where
  pub items : List Item
  pub forms : AllZip IsLine lines items
  pub order : said items ≡ in_order b
  pub begun : IsTableSoFar b

-- a table as its lines say it
abbrev pub all_of : TableContent → TableSoFar
all_of table = record { version = Some table.header.version; setting = table.header.setting; ranges = table.header.ranges; rows = table.rows }

-- what is begun is this whole table
abbrev pub Gives : TableSoFar → TableContent → Type 0
Gives b table = b ≡ all_of table

-- the bytes mean this table
abbrev pub Means : List ℕ → TableContent → Type 0
Means bytes table = Files.Means TABLE_FORM Says Gives bytes table

-- a file may not end here
abbrev pub IsUnfinished : TableSoFar → Type 0
IsUnfinished b = b.version ≡ None

-- ---- Why a line is rejected

-- what a line that says something is for, by its beginning
pub data Purpose : Type 0 where
  ForVersion : Purpose
  ForSetting : Purpose
  ForRange : Purpose
  ForRow : Purpose

-- the text begins with `@`
abbrev pub begins_at : List ℕ → Bool
begins_at [] = false
begins_at (b ∷ bs) = b == 64

abbrev pub Has : List ℕ → Purpose → Type 0
Has text ForVersion = word_of text ≡ at_version
Has text ForSetting = word_of text ≡ at_variable
Has text ForRange = word_of text ≡ at_ranges
Has text ForRow = (text ≢ []) × (begins_at text ≡ false)

-- such a line may come next
abbrev pub IsDue : TableSoFar → Purpose → Type 0
IsDue b ForVersion = b.version ≡ None
IsDue b ForSetting = IsSome b.version × (b.setting ≡ None) × (b.ranges ≡ []) × (b.rows ≡ [])
IsDue b ForRange = IsSome b.version × (b.rows ≡ [])
IsDue b ForRow = IsSome b.version

-- the first cause in what a line for a purpose takes is of this kind
abbrev pub PurposeCause : TableSoFar → List ℕ → Purpose → FaultKind → Type 0
PurposeCause b text ForVersion kind = (kind ≡ kinds.Line) × ((name : List ℕ) → IsVersion text name → ⊥)
PurposeCause b text ForSetting kind = (kind ≡ kinds.Line) × ((setting : Weighting) → IsSetting text setting → ⊥)
PurposeCause b text ForRange kind = RangeCause b.ranges (after_word text) kind
PurposeCause b text ForRow kind = RowCause b.rows text kind

-- The first cause in the text of a line, after lines that say what is begun, is of this kind. It is an `@` with another
-- word, a line out of order, or a cause in what the line says where it may come.
abbrev pub TextCause : TableSoFar → List ℕ → FaultKind → Type 0
TextCause b text kind = ((kind ≡ kinds.Line) × (begins_at text ≡ true) × ((purpose : Purpose) → Has text purpose → ⊥))
    ⊎ ((kind ≡ kinds.Order) × ((purpose : Purpose) × Has text purpose × (IsDue b purpose → ⊥)))
    ⊎ ((purpose : Purpose) × Has text purpose × IsDue b purpose × PurposeCause b text purpose kind)

abbrev pub Cause : TableSoFar → List ℕ → FaultKind → Type 0
Cause b line kind = TextCause b (text_of line) kind

-- why the bytes of a table file are rejected, when the source has `left` left of them
abbrev pub Refuses : List ℕ → Option (List ℕ) → TableFault → Type 0
Refuses bytes left fault = Files.Refuses TABLE_FORM Says Cause IsUnfinished bytes left fault.line fault.kind
