use Rattle.std.proofs.Common.{◌+◌, ◌-◌}
use Rattle.std.specs.List.{range_with_len}
use Rattle.uca_rules.specs.Statements.{Starred, placed_at}
use Rattle.uca_rules.specs.inside.Reading.{Adds}
use Rattle.uca_rules.proofs.reader.Reader.add_between.Given as goal

abbrev pub invariant-loop-point : goal.invariant-loop-point
invariant-loop-point g l = Adds (Starred l.strength (placed_at l.place (range_with_len (l.fn.start + 1) (l.point - (l.fn.start + 1))))) l.initial.self l.self
