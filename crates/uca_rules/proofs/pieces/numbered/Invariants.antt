use Rattle.uca_rules.proofs.HexDigits.{IsNumber}
use Rattle.uca_rules.proofs.pieces.numbered.Given as goal

abbrev pub invariant-loop-at : goal.invariant-loop-at
invariant-loop-at l = IsNumber l.characters l.at l.value
