-- The code points so far were written, and are no surrogates.
use Rattle.std.proofs.Common.{take}
use Rattle.std.specs.Char.{IsScalar}
use Rattle.std.specs.List.{flat_map, AllByRecursion}
use Rattle.uca_lines.specs.Buffered.{HasWrittenThrough}
use Rattle.uca_change_files.specs.ChangeTexts.{spaced}
use Rattle.uca_change_files.proofs.write.write_text.Given as goal

abbrev pub invariant-loop-point : goal.invariant-loop-point
invariant-loop-point g l = record {
  written : HasWrittenThrough (flat_map spaced (take l.point-index l.text)) l.initial.buffer l.buffer l.initial.out l.out;
  scalars : AllByRecursion IsScalar (take l.point-index l.text);
}
