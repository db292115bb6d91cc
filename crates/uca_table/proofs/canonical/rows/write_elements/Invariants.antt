use Rattle.std.proofs.Common.{take}
use Rattle.std.specs.List.{flat_map}
use Rattle.uca_table.specs.CanonicalElements.{element_text}
use Rattle.uca_lines.specs.Buffered.{HasWrittenThrough}
use Rattle.uca_table.proofs.canonical.rows.write_elements.Given as goal

abbrev pub invariant-loop-element : goal.invariant-loop-element
invariant-loop-element g l = HasWrittenThrough (flat_map element_text (take l.element-index l.elements)) l.initial.buffer l.buffer l.initial.out l.out
