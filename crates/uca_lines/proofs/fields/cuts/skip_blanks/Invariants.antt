use Rattle.std.proofs.Common.{◌≡◌, length}
use Rattle.uca_lines.specs.Fields.{skip_blanks}
use Rattle.uca_lines.proofs.fields.cuts.skip_blanks.Given as goal

abbrev pub invariant-loop-text : goal.invariant-loop-text
invariant-loop-text l = skip_blanks l.text ≡ skip_blanks l.initial.text

abbrev pub decreases-loop-text : goal.decreases-loop-text
decreases-loop-text l = length l.text
