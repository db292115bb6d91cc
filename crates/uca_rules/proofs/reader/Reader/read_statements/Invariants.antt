use Rattle.std.proofs.Common.{length}
use Rattle.uca_rules.specs.inside.Reading.{IsReady, Keeps, properties_in, state_of}
use Rattle.uca_rules.proofs.Progress.{HasRead}
use Rattle.uca_rules.proofs.reader.Reader.read_statements.Given as goal

abbrev pub invariant-loop-rest : goal.invariant-loop-rest
invariant-loop-rest g l = IsReady l.self × Keeps l.initial.self.texts l.self.texts × HasRead (properties_in l.initial.self.texts) l.characters (state_of l.self) l.rest

abbrev pub decreases-loop-rest : goal.decreases-loop-rest
decreases-loop-rest g l = length l.rest
