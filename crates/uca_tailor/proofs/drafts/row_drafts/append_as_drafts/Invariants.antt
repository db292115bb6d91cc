use Rattle.std.proofs.Common.{◌≡◌, ◌++◌, map, take, false}
use Rattle.uca_plans.specs.Drafts.{as_draft}
use Rattle.uca_tailor.proofs.drafts.row_drafts.append_as_drafts.Given as goal

abbrev pub invariant-loop-element : goal.invariant-loop-element
invariant-loop-element g l = l.elements.items ≡ l.initial.elements.items ++ map (as_draft false) (take l.element-index l.own)
