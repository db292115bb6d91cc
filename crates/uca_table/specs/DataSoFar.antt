-- What the lines of a data file say together, and why a line is rejected.
use Rattle.std.specs.Prelude.{◌≡◌, ◌≢◌, ◌⊎◌, ℕ, ◌<◌, ◌≤◌, ⊤, Bool, true, false, List, [], ◌∷◌, ◌++◌, length, Option, Result, Ok, Err}
use Rattle.std.specs.List.{AllByRecursion, AllZip}
use Rattle.uca_lines.specs.Fields.{text_of}
use Rattle.uca_values.specs.declared.faults.FaultKind.{FaultKind}
use Rattle.uca_values.specs.declared.faults.FaultKind.TheVariants as kinds
use Rattle.uca_values.specs.declared.faults.TableFault.{TableFault}
use Rattle.uca_lines.specs.declared.files.TheConstants.{TABLE_FORM}
use Rattle.uca_lines.specs.Files as files
use Rattle.uca_values.specs.Content.{DataContent, Properties, properties_of, HasClassBetween, HasHanBetween}
use Rattle.uca_table.specs.declared.data_file.lines.RangeLine.{RangeLine}
use Rattle.uca_table.specs.declared.data_file.lines.RangeLine.TheVariants.{Class, Core, Other}
use Rattle.uca_table.specs.DataLines.{Item, Nothing, Start, OfRange, AreWords, read_words, header, IsLine}

-- ---- All lines

-- whether the header was there, the properties that the ranges give, and how many ranges of each kind there are
pub record Said : Type 0 where
  pub started : Bool
  pub properties : Properties
  pub classes : ℕ
  pub core : ℕ
  pub other : ℕ

abbrev pub AreRanges : List Item → Type 0
AreRanges [] = ⊤
AreRanges (Start ∷ items) = ⊥
AreRanges (_ ∷ items) = AreRanges items

-- the header comes first, and once; without it there is nothing
abbrev pub AreInOrder : Bool → List Item → Type 0
AreInOrder started [] = started ≡ false
AreInOrder started (Nothing ∷ items) = AreInOrder started items
AreInOrder started (Start ∷ items) = (started ≡ true) × AreRanges items
AreInOrder started (OfRange r ∷ items) = ⊥

-- one more range at the front of its list
abbrev pub put : RangeLine → DataContent → DataContent
put (Class r) content = record content { classes = r ∷ content.classes }
put (Core r) content = record content { core = r ∷ content.core }
put (Other r) content = record content { other = r ∷ content.other }

-- the ranges of each kind, in file order
abbrev pub ranges_of : List Item → DataContent
ranges_of [] = record { classes = []; core = []; other = [] }
ranges_of (OfRange r ∷ items) = put r (ranges_of items)
ranges_of (_ ∷ items) = ranges_of items

-- no range is empty, and no two have a code point in common
abbrev pub AreApart : {X : Type 0} → (X → ℕ) → (X → ℕ) → List X → Type 0
AreApart first last [] = ⊤
AreApart first last (r ∷ ranges) = (first r ≤ last r) × AllByRecursion (λ s. (last r < first s) ⊎ (last s < first r)) ranges × AreApart first last ranges

-- which ranges a data file may have; those of core Han and of other ideographs are apart from each other
pub record MayStand (content : DataContent) : Type 0 where
  pub classes : AreApart (λ r. r.first) (λ r. r.last) content.classes
  pub han : AreApart (λ r. r.first) (λ r. r.last) (content.core ++ content.other)
  pub few_classes : length content.classes ≤ 4096
  pub few_core : length content.core ≤ 4096
  pub few_other : length content.other ≤ 4096

abbrev pub summary : Bool → DataContent → Said
summary started content = record {
  started = started;
  properties = properties_of content;
  classes = length content.classes;
  core = length content.core;
  other = length content.other;
}

-- the lines are acceptable in order, and say this
pub record Says (lines : List (List ℕ)) (said : Said) : Type 0 where
  pub items : List Item
  pub forms : AllZip IsLine lines items
  pub order : AreInOrder said.started items
  pub ranges : MayStand (ranges_of items)
  pub sum : said ≡ summary said.started (ranges_of items)

-- if the header was there, the properties that the ranges give
pub record Gives (said : Said) (properties : Properties) : Type 0 where
  pub started : said.started ≡ true
  pub same : said.properties ≡ properties

-- the bytes are a data file that gives code points these properties
abbrev pub Means : List ℕ → Properties → Type 0
Means bytes properties = files.Means TABLE_FORM Says Gives bytes properties

-- a file may not end before its header
abbrev pub IsUnfinished : Said → Type 0
IsUnfinished said = said.started ≡ false

-- ---- Why a line is rejected

-- the range is empty, or has a code point in common with those before it
abbrev pub IsBarred : Said → RangeLine → Type 0
IsBarred said (Class r) = (r.last < r.first) ⊎ HasClassBetween said.properties r.first r.last
IsBarred said (Core r) = (r.last < r.first) ⊎ HasHanBetween said.properties r.first r.last
IsBarred said (Other r) = (r.last < r.first) ⊎ HasHanBetween said.properties r.first r.last

-- how many ranges of its kind come before it
abbrev pub count_before : Said → RangeLine → ℕ
count_before said (Class r) = said.classes
count_before said (Core r) = said.core
count_before said (Other r) = said.other

-- a second header, or something else where the header must come
abbrev pub OrderCause : Said → List ℕ → Type 0
OrderCause said text = ((said.started ≡ true) × (text ≡ header)) ⊎ ((said.started ≡ false) × (text ≢ []) × (text ≢ header))

-- the text is where a range must come
pub record IsRangeDue (said : Said) (text : List ℕ) : Type 0 where
  pub started : said.started ≡ true
  pub some : text ≢ []
  pub other : text ≢ header

-- by what the words of the text say: they are not a range; the range may not be added; it is one too many
abbrev pub RangeCause : Said → Result RangeLine FaultKind → FaultKind → Type 0
RangeCause said (Err fault) kind = kind ≡ fault
RangeCause said (Ok r) kinds.Range = IsBarred said r
RangeCause said (Ok r) kinds.Limit = (IsBarred said r → ⊥) × (4096 ≤ count_before said r)
RangeCause said (Ok r) _ = ⊥

-- a cause of the kind is in the next line
abbrev pub Cause : Said → List ℕ → FaultKind → Type 0
Cause said line kind =
    ((kind ≡ kinds.Order) × OrderCause said (text_of line))
    ⊎ (IsRangeDue said (text_of line) × ((words : List (List ℕ)) × AreWords (text_of line) words × RangeCause said (read_words words) kind))

-- why the bytes of a data file are rejected, when the source has `left` left of them
abbrev pub Refuses : List ℕ → Option (List ℕ) → TableFault → Type 0
Refuses bytes left fault = files.Refuses TABLE_FORM Says Cause IsUnfinished bytes left fault.line fault.kind
