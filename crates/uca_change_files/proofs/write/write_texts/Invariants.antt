-- The lines of the texts so far were written, and have no surrogates.
use Rattle.std.proofs.Common.{take}
use Rattle.uca_lines.specs.Buffered.{HasWrittenThrough}
use Rattle.uca_change_files.specs.ChangeTexts.{AreScalars}
use Rattle.uca_change_files.specs.Steps.{text_lines}
use Rattle.uca_change_files.proofs.write.write_texts.Given as goal

abbrev pub invariant-loop-text : goal.invariant-loop-text
invariant-loop-text g l = record {
  written : HasWrittenThrough (text_lines (take l.text-index l.texts)) l.initial.buffer l.buffer l.initial.out l.out;
  scalars : AreScalars (take l.text-index l.texts);
}
