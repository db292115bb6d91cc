use Rattle.uca_lines.specs.Fields.{is_blank}
use Rattle.uca_lines.proofs.FieldLemmas.{NoneBefore}
use Rattle.uca_lines.proofs.fields.cuts.cut_word.Given as goal

abbrev pub invariant-loop-at : goal.invariant-loop-at
invariant-loop-at l = NoneBefore is_blank l.text l.at
