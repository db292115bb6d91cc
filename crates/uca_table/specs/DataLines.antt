-- What the lines of a data file say.
use Rattle.std.specs.Prelude.{◌≡◌, ℕ, List, [], ◌∷◌, codes, Option, Some, None, Result, Ok, Err, if◌then◌else◌}
use Rattle.std.specs.Str.{bytes_eq}
use Rattle.uca_lines.specs.declared.fields.RangeSyntax.TheVariants as ends
use Rattle.uca_lines.specs.declared.fields.RangeSyntax.{RangeSyntax}
use Rattle.uca_lines.specs.Fields.{text_of}
use Rattle.uca_lines.specs.Numbers.{class_of}
use Rattle.uca_lines.specs.CodePointRanges.{range_of}
use Rattle.uca_lines.specs.Leads.{Leads, BeginsWord}
use Rattle.uca_values.specs.declared.faults.FaultKind.{FaultKind}
use Rattle.uca_values.specs.declared.faults.FaultKind.TheVariants as kinds
use Rattle.uca_values.specs.declared.CodePointRange.{CodePointRange}
use Rattle.uca_table.specs.declared.data_file.lines.RangeLine.{RangeLine}
use Rattle.uca_table.specs.declared.data_file.lines.RangeLine.TheVariants.{Class, Core, Other}

-- the text is these words, with blanks between them
abbrev pub AreWords : List ℕ → List (List ℕ) → Type 0
AreWords text words = Leads BeginsWord text words []

-- `FIRST..LAST`
abbrev pub range_read : Result (ℕ × ℕ) RangeSyntax → Result CodePointRange FaultKind
range_read (Ok r) = Ok (record { first = r.0; last = r.1 })
range_read (Err ends.NoDots) = Err kinds.Line
range_read (Err ends.CodePoint) = Err kinds.CodePoint

abbrev pub han_read : (CodePointRange → RangeLine) → Result CodePointRange FaultKind → Result RangeLine FaultKind
han_read Kind (Ok r) = Ok (Kind r)
han_read Kind (Err kind) = Err kind

abbrev pub class_read : Result CodePointRange FaultKind → Option ℕ → Result RangeLine FaultKind
class_read (Err kind) class = Err kind
class_read (Ok r) None = Err kinds.Weight
class_read (Ok r) (Some class) = Ok (Class (record { first = r.first; last = r.last; class = class }))

-- What the words of a line say: `core FIRST..LAST`, `other FIRST..LAST` or `ccc FIRST..LAST N`. For
-- other words it is the first of these causes: another first word or another number of words, no `..`, no code point,
-- no class.
abbrev pub read_words : List (List ℕ) → Result RangeLine FaultKind
read_words (word ∷ range ∷ []) =
    if bytes_eq word (codes "core") then han_read Core (range_read (range_of range)) else
    if bytes_eq word (codes "other") then han_read Other (range_read (range_of range)) else
    Err kinds.Line
read_words (word ∷ range ∷ number ∷ []) =
    if bytes_eq word (codes "ccc") then class_read (range_read (range_of range)) (class_of number) else
    Err kinds.Line
read_words _ = Err kinds.Line

-- what a line says: nothing, `@data 1`, or a range
pub data Item : Type 0 where
  Nothing : Item
  Start : Item
  OfRange : RangeLine → Item

abbrev pub header : List ℕ
header = codes "@data 1"

abbrev pub IsText : List ℕ → Item → Type 0
IsText text Nothing = text ≡ []
IsText text Start = text ≡ header
IsText text (OfRange range) = (words : List (List ℕ)) × AreWords text words × (read_words words ≡ Ok range)

abbrev pub IsLine : List ℕ → Item → Type 0
IsLine line item = IsText (text_of line) item
