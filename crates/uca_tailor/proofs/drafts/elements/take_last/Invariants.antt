use Rattle.std.proofs.Common.{◌≡◌}
use Rattle.uca_plans.specs.Drafts.{anchor_part}
use Rattle.uca_tailor.proofs.drafts.elements.take_last.Given as goal

abbrev pub invariant-loop-last : goal.invariant-loop-last
invariant-loop-last g l = anchor_part l.level l.elements.items ≡ anchor_part l.level l.initial.elements.items

abbrev pub decreases-loop-last : goal.decreases-loop-last
decreases-loop-last g l = goal.left-loop-last g l
