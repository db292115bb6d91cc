-- The one canonical text of a table (UTS #10, section 9.1): each line of it in its one spelling.
use Rattle.std.specs.Prelude.{ℕ, List, [], ◌∷◌, ◌++◌, map}
use Rattle.std.specs.List.{flat_map}
use Rattle.std.specs.Option.{option_to_list}
use Rattle.uca_weights.specs.declared.Weighting.{Weighting}
use Rattle.uca_lines.specs.Lines.{ended}
use Rattle.uca_lines.specs.Numbers.{digits, point_width}
use Rattle.uca_values.specs.declared.ImplicitRange.{ImplicitRange}
use Rattle.uca_values.specs.Content.{Entry, HeaderContent, TableContent}
use Rattle.uca_table.specs.CanonicalWords.{at_version, at_variable, at_ranges, setting_word}
use Rattle.uca_table.specs.CanonicalElements.{element_text}

-- a code point: four digits, or as many as it needs
unfoldable pub point_text : ℕ → List ℕ
point_text c = digits (point_width c) c

-- the code points of a key, each with a space after it
unfoldable pub key_point_text : ℕ → List ℕ
key_point_text c = point_text c ++ 32 ∷ []

unfoldable pub key_text : List ℕ → List ℕ
key_text key = flat_map key_point_text key

-- ---- Lines, without the LF that ends each

-- `@version V`
unfoldable pub version_line : List ℕ → List ℕ
version_line name = at_version ++ 32 ∷ name

-- `@variable non-ignorable` or `@variable shifted`
unfoldable pub setting_line : Weighting → List ℕ
setting_line setting = at_variable ++ 32 ∷ setting_word setting

-- `@implicitweights FIRST..LAST; LEAD`
unfoldable pub range_line : ImplicitRange → List ℕ
range_line r = at_ranges ++ 32 ∷ (point_text r.first ++ 46 ∷ 46 ∷ (point_text r.last ++ 59 ∷ 32 ∷ digits 4 r.lead))

-- `CP CP ; [.W.W.W][*W.W.W]`
unfoldable pub row_line : Entry → List ℕ
row_line row = key_text row.key ++ 59 ∷ 32 ∷ flat_map element_text row.elements

-- ---- The text

-- the version, then the setting if there is one, then the ranges
abbrev pub header_lines : HeaderContent → List (List ℕ)
header_lines header = version_line header.version ∷ (map setting_line (option_to_list header.setting) ++ map range_line header.ranges)

-- and then the rows
abbrev pub canonical_lines : TableContent → List (List ℕ)
canonical_lines table = header_lines table.header ++ map row_line table.rows

-- the lines, each ended by LF, and nothing else
unfoldable pub canonical : TableContent → List ℕ
canonical table = flat_map ended (canonical_lines table)
