-- The canonical text of a table, and each of its lines, is written part by part.
use Rattle.std.proofs.Common.{◌≡◌, ℕ, List, [], ◌∷◌, ◌++◌, map, Option, Some, None, refl, sym, ap, ◌∙◌, append_assoc}
use Rattle.std.specs.Option.{option_to_list}
use Rattle.std.proofs.lemmas.Grind.{flat_map-append}
use Rattle.std.proofs.lemmas.List.Folds.{flat_map-map}
use Rattle.uca_weights.specs.declared.Weighting.{Weighting}
use Rattle.std.specs.List.{flat_map}
use Rattle.std.proofs.lemmas.List.{append-nil}
use Rattle.uca_lines.specs.Lines.{ended}
use Rattle.uca_lines.specs.Numbers.{digits}
use Rattle.uca_values.specs.declared.ImplicitRange.{ImplicitRange}
use Rattle.uca_values.specs.Content.{Entry, HeaderContent, TableContent}
use Rattle.uca_table.specs.CanonicalWords.{at_version, at_ranges}
use Rattle.uca_table.specs.CanonicalElements.{element_text}
use Rattle.uca_table.specs.Canonical.{point_text, key_point_text, key_text, version_line, setting_line, range_line, row_line, header_lines, canonical}
use Rattle.uca_table.specs.inside.CanonicalLineTexts.{setting_text, range_lines, header_text, row_lines}
use Rattle.uca_lines.proofs.BufferedLemmas.{part}

abbrev pub point_parts : ℕ → List (List ℕ)
point_parts c = point_text c ∷ (32 ∷ []) ∷ []

pub key_point_text_is : (c : ℕ) → key_point_text c ≡ flat_map part (point_parts c)
unfolding key_point_text
key_point_text_is c = simp append-nil

abbrev pub row_parts : Entry → List (List ℕ)
row_parts row = key_text row.key ∷ (59 ∷ 32 ∷ []) ∷ flat_map element_text row.elements ∷ (10 ∷ []) ∷ []

pub row_text_is : (row : Entry) → ended (row_line row) ≡ flat_map part (row_parts row)
unfolding row_line
row_text_is row = simp (append_assoc, append-nil)

abbrev pub version_parts : List ℕ → List (List ℕ)
version_parts name = (at_version ++ 32 ∷ []) ∷ name ∷ (10 ∷ []) ∷ []

pub version_text_is : (name : List ℕ) → ended (version_line name) ≡ flat_map part (version_parts name)
unfolding version_line
version_text_is name = simp (append_assoc, append-nil)

abbrev pub range_parts : ImplicitRange → List (List ℕ)
range_parts r = (at_ranges ++ 32 ∷ []) ∷ point_text r.first ∷ (46 ∷ 46 ∷ []) ∷ point_text r.last ∷ (59 ∷ 32 ∷ digits 4 r.lead ++ 10 ∷ []) ∷ []

pub range_text_is : (r : ImplicitRange) → ended (range_line r) ≡ flat_map part (range_parts r)
unfolding range_line
range_text_is r = simp (append_assoc, append-nil)

pub setting_text_none : (o : Option Weighting) → o ≡ None → setting_text o ≡ []
unfolding setting_text
setting_text_none o e = rw e refl

pub setting_text_some : (o : Option Weighting) (setting : Weighting) (line : List ℕ) → o ≡ Some setting → line ≡ ended (setting_line setting)
    → setting_text o ≡ line
unfolding setting_text
setting_text_some o setting line e h = rw e (append-nil (ended (setting_line setting)) ∙ sym h)

abbrev pub header_parts : HeaderContent → List (List ℕ)
header_parts header = ended (version_line header.version) ∷ setting_text header.setting ∷ range_lines header.ranges ∷ []

pub header_text_is : (header : HeaderContent) → header_text header ≡ flat_map part (header_parts header)
unfolding header_text setting_text range_lines
header_text_is header = ap (λ l. ended (version_line header.version) ++ l) (
    flat_map-append ended (map setting_line (option_to_list header.setting)) (map range_line header.ranges)
    ∙ ap (λ l. flat_map ended (map setting_line (option_to_list header.setting)) ++ l)
    (flat_map-map ended range_line header.ranges ∙ sym (append-nil (flat_map (λ r. ended (range_line r)) header.ranges)))
    )

abbrev pub table_parts : TableContent → List (List ℕ)
table_parts table = header_text table.header ∷ row_lines table.rows ∷ []

pub canonical_is : (table : TableContent) → canonical table ≡ flat_map part (table_parts table)
unfolding canonical header_text row_lines
canonical_is table = flat_map-append ended (header_lines table.header) (map row_line table.rows)
    ∙ ap (λ l. flat_map ended (header_lines table.header) ++ l) (flat_map-map ended row_line table.rows
    ∙ sym (append-nil (flat_map (λ row. ended (row_line row)) table.rows)))
