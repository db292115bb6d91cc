use Rattle.std.proofs.Common.{take}
use Rattle.uca_rules.specs.Statements.{HasRangesSoFar}
use Rattle.uca_rules.proofs.texts.test_hyphens.Given as goal

abbrev pub invariant-loop-at : goal.invariant-loop-at
invariant-loop-at l = HasRangesSoFar (take l.at l.symbols)
