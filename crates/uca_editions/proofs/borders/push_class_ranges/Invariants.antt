use Rattle.std.proofs.Common.{take}
use Rattle.uca_values.specs.declared.ClassRange.{ClassRange}
use Rattle.uca_editions.specs.inside.Borders.{AddsBorders}
use Rattle.uca_editions.proofs.borders.push_class_ranges.Given as goal

abbrev pub invariant-loop-range : goal.invariant-loop-range
invariant-loop-range g l = AddsBorders (λ (r : ClassRange). r.first) (λ r. r.last) (take l.range-index l.ranges) l.initial.list.items l.list.items
