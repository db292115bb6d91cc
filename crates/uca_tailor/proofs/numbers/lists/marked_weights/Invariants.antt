use Rattle.std.proofs.Common.{◌≡◌, ◌++◌, map, drop}
use Rattle.uca_plans.specs.declared.drafts.DraftWeight.TheVariants.{Base}
use Rattle.uca_tailor.specs.inside.Marks.{slots_from}
use Rattle.uca_tailor.proofs.numbers.lists.marked_weights.Given as goal

-- the weights so far and those of the marks that are left are all that are marked
abbrev pub invariant-loop-weight : goal.invariant-loop-weight
invariant-loop-weight g l = l.weights.items ++ map Base (slots_from l.weight (drop l.weight l.marks)) ≡ map Base (slots_from 0 l.marks)
