use Rattle.std.proofs.Common.{length, IsTrue}
use Rattle.uca_rules.specs.Statements.{HasRangesSoFar}
use Rattle.uca_rules.proofs.TextSteps.{AreRead}
use Rattle.uca_rules.proofs.texts.read_text.Given as goal

abbrev pub invariant-loop-symbols : goal.invariant-loop-symbols
invariant-loop-symbols g l = record {
  read : AreRead l.starred l.text l.rest l.symbols.items;
  so_far : IsTrue l.starred → HasRangesSoFar l.symbols.items;
}

abbrev pub decreases-loop-symbols : goal.decreases-loop-symbols
decreases-loop-symbols g l = length l.rest
