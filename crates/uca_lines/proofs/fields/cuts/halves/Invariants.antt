use Rattle.uca_lines.proofs.FieldLemmas.{NoDotsBefore}
use Rattle.uca_lines.proofs.fields.cuts.halves.Given as goal

abbrev pub invariant-loop-at : goal.invariant-loop-at
invariant-loop-at l = NoDotsBefore l.text l.at
