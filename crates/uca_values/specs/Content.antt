-- What tables and data files mean, without where it lies in memory, and what is true of every such value.
use Rattle.std.specs.Prelude.{◌≡◌, ◌≢◌, ◌⊎◌, ℕ, ◌+◌, ◌<◌, ◌≤◌, ◌&&◌, ◌||◌, ◌==◌, Bool, true, ⊤, nat_le, List, [], ◌∷◌, length, map, Option, Contains}
use Rattle.std.specs.List.{list_all, AllByRecursion}
use Rattle.std.specs.Char.{IsScalar}
use Rattle.uca_weights.specs.declared.Element.{Element}
use Rattle.uca_weights.specs.declared.Weighting.{Weighting}
use Rattle.uca_values.specs.declared.ImplicitRange.{ImplicitRange}
use Rattle.uca_values.specs.declared.ClassRange.{ClassRange}
use Rattle.uca_values.specs.declared.CodePointRange.{CodePointRange}
use Rattle.uca_values.specs.Ranges.{is_within, class_in, AreRising, AreRisingClasses}

-- ---- Tables

-- a row: its key, as code points, and its elements
pub record Entry : Type 0 where
  pub key : List ℕ
  pub elements : List Element

-- the lines of a table before its rows
pub record HeaderContent : Type 0 where
  pub version : List ℕ
  pub setting : Option Weighting
  pub ranges : List ImplicitRange

-- a table: its header, and its rows in order
pub record TableContent : Type 0 where
  pub header : HeaderContent
  pub rows : List Entry

-- an ASCII letter or digit, `.` or `-`
abbrev pub is_name_byte : ℕ → Bool
is_name_byte b = (nat_le 48 b && nat_le b 57) || (nat_le 65 b && nat_le b 90) || (nat_le 97 b && nat_le b 122) || b == 46 || b == 45

-- 1 to 32 such bytes
abbrev pub is_version_name : List ℕ → Bool
is_version_name name = nat_le 1 (length name) && nat_le (length name) 32 && list_all is_name_byte name

-- two ranges are apart, and where their lead is the same, near
pub record Agree (r s : ImplicitRange) : Type 0 where
  pub apart : (r.last < s.first) ⊎ (s.last < r.first)
  pub near : r.lead ≡ s.lead → (r.last < s.first + 0x8000) × (s.last < r.first + 0x8000)

-- a range alone: its ends are code points, it is not empty, its lead is one of the leads for implicit weights, and its code
-- points have room below it
pub record IsImplicitRange (r : ImplicitRange) : Type 0 where
  pub first_point : IsScalar r.first
  pub last_point : IsScalar r.last
  pub rising : r.first ≤ r.last
  pub low : 0xFB00 ≤ r.lead
  pub high : r.lead ≤ 0xFB3F
  pub short : r.last < r.first + 0x8000

abbrev pub AreImplicitRanges : List ImplicitRange → Type 0
AreImplicitRanges [] = ⊤
AreImplicitRanges (r ∷ ranges) = IsImplicitRange r × AllByRecursion (Agree r) ranges × AreImplicitRanges ranges

-- what is true of every header
pub record IsHeader (header : HeaderContent) : Type 0 where
  pub named : is_version_name header.version ≡ true
  pub ranges : AreImplicitRanges header.ranges
  pub few : length header.ranges ≤ 256

-- the weights are numbers of 16 bits
pub record Fits (e : Element) : Type 0 where
  pub primary : e.primary < 0x1_0000
  pub secondary : e.secondary < 0x1_0000
  pub tertiary : e.tertiary < 0x1_0000

-- what is true of every row: 1 to 16 code points, and 1 to 32 elements
pub record IsEntry (row : Entry) : Type 0 where
  pub points : AllByRecursion IsScalar row.key
  pub some_points : 1 ≤ length row.key
  pub few_points : length row.key ≤ 16
  pub fits : AllByRecursion Fits row.elements
  pub some_elements : 1 ≤ length row.elements
  pub few_elements : length row.elements ≤ 32

abbrev pub keys_of : List Entry → List (List ℕ)
keys_of rows = map (λ row. row.key) rows

-- no key comes twice
abbrev pub AreDistinct : List Entry → Type 0
AreDistinct [] = ⊤
AreDistinct (row ∷ rows) = (Contains (keys_of rows) row.key → ⊥) × AreDistinct rows

-- what is true of the rows of every table
pub record AreRows (rows : List Entry) : Type 0 where
  pub entries : AllByRecursion IsEntry rows
  pub distinct : AreDistinct rows
  pub few : length rows ≤ 200000

-- what is true of every table
pub record IsTable (table : TableContent) : Type 0 where
  pub header : IsHeader table.header
  pub rows : AreRows table.rows

-- ---- Data files

-- the ranges of a data file, each list in rising order
pub record DataContent : Type 0 where
  pub classes : List ClassRange
  pub core : List CodePointRange
  pub other : List CodePointRange

-- what a data file says of each code point: its combining class, and whether it is core Han or another unified ideograph
pub record Properties : Type 0 where
  pub class : ℕ → ℕ
  pub is_core : ℕ → Bool
  pub is_other : ℕ → Bool

abbrev pub properties_of : DataContent → Properties
properties_of content = record { class = class_in content.classes; is_core = is_within content.core; is_other = is_within content.other }

-- a code point from `first` to `last` has a class
abbrev pub HasClassBetween : Properties → ℕ → ℕ → Type 0
HasClassBetween properties first last = (point : ℕ) × (first ≤ point) × (point ≤ last) × (properties.class point ≢ 0)

-- a code point from `first` to `last` is core Han or another unified ideograph
abbrev pub HasHanBetween : Properties → ℕ → ℕ → Type 0
HasHanBetween properties first last = (point : ℕ) × (first ≤ point) × (point ≤ last) × ((properties.is_core point ≡ true) ⊎ (properties.is_other point ≡ true))

-- a class that a range may have
abbrev pub IsClass : ℕ → Type 0
IsClass class = (1 ≤ class) × (class ≤ 254)

-- what is true of the ranges of every data file
pub record IsData (content : DataContent) : Type 0 where
  pub classes : AreRisingClasses content.classes
  pub numbers : AllByRecursion (λ r. IsClass r.class) content.classes
  pub core : AreRising content.core
  pub other : AreRising content.other
  pub few_classes : length content.classes ≤ 4096
  pub few_core : length content.core ≤ 4096
  pub few_other : length content.other ≤ 4096
