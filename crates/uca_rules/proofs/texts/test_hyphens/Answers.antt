-- One more symbol, and all of them.
use Rattle.std.proofs.Common.{refl, subst, arith}
use Rattle.std.proofs.lemmas.List.{take_all}
use Rattle.uca_rules.specs.Statements.{HasRangesSoFar}
use Rattle.uca_rules.proofs.Hyphens.{no_symbol, shows_in, so_far_more}
use Rattle.uca_rules.proofs.texts.test_hyphens.Goals as goal

pub returns-in-Some-clause-fault : goal.returns-in-Some-clause-fault
returns-in-Some-clause-fault c = (refl, shows_in c.args.symbols.now c.loop-at.at no_symbol c.in-Some.byte (omega arith) c.in-Some.ensures)

pub loop-at-preserved : goal.loop-at-preserved
loop-at-preserved c = so_far_more c.args.symbols.now c.loop-at.at no_symbol (omega arith) c.in_default.ensures

pub returns-clause-found : goal.returns-clause-found
returns-clause-found c = subst HasRangesSoFar (take_all c.loop-at.at c.args.symbols.now (omega arith)) c.loop-at.invariant
