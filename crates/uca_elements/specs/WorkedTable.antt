-- A small table and a small data file for worked examples, and some larger tables that add contractions to it.
-- The table, as a file:
--
--     @version 1
--     @implicitweights 17000..18AFF; FB00
--     0020 ; [*0209.0020.0002]
--     0061 ; [.1C47.0020.0002]
--     0041 ; [.1C47.0020.0008]
--     0062 ; [.1C60.0020.0002]
--     0300 ; [.0000.0025.0002]
--     0301 ; [.0000.0024.0002]
--     0323 ; [.0000.002C.0002]
--
-- The data file:
--
--     @data 1
--     ccc 0300..0314 230
--     ccc 0323..0323 220
--     core 4E00..9FFF
--     other 20000..20FFF
use Rattle.std.specs.Prelude.{ℕ, List, [], ◌∷◌, ◌++◌, true, false, None, map}
use Rattle.uca_weights.specs.declared.Element.{Element}
use Rattle.uca_values.specs.declared.ImplicitRange.{ImplicitRange}
use Rattle.uca_values.specs.Content.{Entry, HeaderContent, TableContent, DataContent, Properties, properties_of}
use Rattle.uca_text.specs.Texts.{Text, with_classes}
use Rattle.uca_elements.specs.Rows.{rows_of}
use Rattle.uca_elements.specs.Reading.{collation_elements}

-- an element that is not variable, `[.primary.secondary.tertiary]`
abbrev pub plain : ℕ → ℕ → ℕ → Element
plain primary secondary tertiary = record { primary = primary; secondary = secondary; tertiary = tertiary; mark = false }

-- a variable one, `[*primary.secondary.tertiary]`
abbrev pub variable : ℕ → ℕ → ℕ → Element
variable primary secondary tertiary = record { primary = primary; secondary = secondary; tertiary = tertiary; mark = true }

-- a row with one element
abbrev pub row : List ℕ → Element → Entry
row key element = record { key = key; elements = element ∷ [] }

abbrev pub small_rows : List Entry
small_rows =
    row (0x20 ∷ []) (variable 0x209 0x20 2) ∷
    row (0x61 ∷ []) (plain 0x1C47 0x20 2) ∷
    row (0x41 ∷ []) (plain 0x1C47 0x20 8) ∷
    row (0x62 ∷ []) (plain 0x1C60 0x20 2) ∷
    row (0x300 ∷ []) (plain 0 0x25 2) ∷
    row (0x301 ∷ []) (plain 0 0x24 2) ∷
    row (0x323 ∷ []) (plain 0 0x2C 2) ∷ []

abbrev pub small_ranges : List ImplicitRange
small_ranges = record { first = 0x17000; last = 0x18AFF; lead = 0xFB00 } ∷ []

abbrev pub small_header : HeaderContent
small_header = record { version = 0x31 ∷ []; setting = None; ranges = small_ranges }

abbrev pub small_table : TableContent
small_table = record { header = small_header; rows = small_rows }

abbrev pub small_data : DataContent
small_data = record {
  classes = record { first = 0x300; last = 0x314; class = 230 } ∷ record { first = 0x323; last = 0x323; class = 220 } ∷ [];
  core = record { first = 0x4E00; last = 0x9FFF } ∷ [];
  other = record { first = 0x20000; last = 0x20FFF } ∷ [];
}

abbrev pub small_properties : Properties
small_properties = properties_of small_data

-- ---- Tables with contractions

-- with `0061 0301 ; [.1C50.0020.0002]`
abbrev pub with_contraction : List Entry
with_contraction = small_rows ++ row (0x61 ∷ 0x301 ∷ []) (plain 0x1C50 0x20 2) ∷ []

-- and with `0061 0301 0300 ; [.1C58.0020.0002]`
abbrev pub with_long_contraction : List Entry
with_long_contraction = with_contraction ++ row (0x61 ∷ 0x301 ∷ 0x300 ∷ []) (plain 0x1C58 0x20 2) ∷ []

-- with `0078 0301 ; [.1C90.0020.0002]`, where `x` alone is no key
abbrev pub with_unlisted_start : List Entry
with_unlisted_start = small_rows ++ row (0x78 ∷ 0x301 ∷ []) (plain 0x1C90 0x20 2) ∷ []

-- with `0061 0062 0041 ; [.1C70.0020.0002]`, where `a` alone is a key and `a b` is none
abbrev pub with_letters : List Entry
with_letters = small_rows ++ row (0x61 ∷ 0x62 ∷ 0x41 ∷ []) (plain 0x1C70 0x20 2) ∷ []

-- ---- Texts

-- code points, which are in Normalization Form D already, with their classes
abbrev pub small_text : List ℕ → Text
small_text points = with_classes points (map small_properties.class points)

-- the collation elements of a text under some rows, with the header and the data file above
abbrev pub elements_under : List Entry → List ℕ → List Element
elements_under rows points = collation_elements (rows_of rows) small_ranges small_properties (small_text points)
