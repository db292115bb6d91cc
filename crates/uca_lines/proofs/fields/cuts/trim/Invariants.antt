use Rattle.std.proofs.Common.{◌≡◌, length}
use Rattle.uca_lines.specs.Fields.{no_end_blanks}
use Rattle.uca_lines.proofs.fields.cuts.trim.Given as goal

abbrev pub invariant-loop-text : goal.invariant-loop-text
invariant-loop-text l = no_end_blanks l.text ≡ no_end_blanks l.initial.text

abbrev pub decreases-loop-text : goal.decreases-loop-text
decreases-loop-text l = length l.text
