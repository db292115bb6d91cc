use Rattle.std.proofs.Common.{ℕ, List}
use Rattle.test_texts.proofs.lookups.said.Given as goal

abbrev pub invariant-loop-point : goal.invariant-loop-point
invariant-loop-point g l = (key : List ℕ) × g.L.Lookup.stands_for l.lookup l.node key
