use Rattle.std.proofs.Common.{take}
use Rattle.std.specs.List.{AllByRecursion}
use Rattle.uca_values.specs.Content.{Agree}
use Rattle.uca_table.proofs.headers.may_follow.Given as goal

abbrev pub invariant-loop-other : goal.invariant-loop-other
invariant-loop-other l = AllByRecursion (λ s. Agree s l.range) (take l.other-index l.earlier)
