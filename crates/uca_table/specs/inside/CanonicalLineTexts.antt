-- The parts of the canonical text of a table, each as lines with their LF.
use Rattle.std.specs.Prelude.{ℕ, List, map, Option}
use Rattle.std.specs.List.{flat_map}
use Rattle.std.specs.Option.{option_to_list}
use Rattle.uca_weights.specs.declared.Weighting.{Weighting}
use Rattle.uca_lines.specs.Lines.{ended}
use Rattle.uca_values.specs.declared.ImplicitRange.{ImplicitRange}
use Rattle.uca_values.specs.Content.{Entry, HeaderContent}
use Rattle.uca_table.specs.Canonical.{setting_line, range_line, row_line, header_lines}

unfoldable pub setting_text : Option Weighting → List ℕ
setting_text setting = flat_map ended (map setting_line (option_to_list setting))

unfoldable pub range_lines : List ImplicitRange → List ℕ
range_lines ranges = flat_map (λ r. ended (range_line r)) ranges

unfoldable pub header_text : HeaderContent → List ℕ
header_text header = flat_map ended (header_lines header)

unfoldable pub row_lines : List Entry → List ℕ
row_lines rows = flat_map (λ row. ended (row_line row)) rows
