use Rattle.std.proofs.Common.{take}
use Rattle.uca_rules.specs.Statements.{Starred, targets_of}
use Rattle.uca_rules.specs.inside.Reading.{Adds}
use Rattle.uca_rules.proofs.reader.Reader.add_targets.Given as goal

abbrev pub invariant-loop-at : goal.invariant-loop-at
invariant-loop-at g l = Adds (Starred l.strength (targets_of (take l.at l.symbols))) l.initial.self l.self
