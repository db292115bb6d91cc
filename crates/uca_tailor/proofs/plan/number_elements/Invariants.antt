use Rattle.std.proofs.Common.{◌≡◌, map, take, false}
use Rattle.uca_weights.specs.declared.Element.{Element}
use Rattle.uca_plans.specs.Drafts.{as_draft}
use Rattle.uca_plans.specs.Plans.{numbered}
use Rattle.uca_tailor.proofs.plan.number_elements.Given as goal

abbrev pub invariant-loop-element : goal.invariant-loop-element
invariant-loop-element g l = l.numbered.items ≡ map (λ (e : Element). numbered l.numbers (as_draft false e)) (take l.element-index l.element-items)

abbrev pub invariant-loop-drafted : goal.invariant-loop-drafted
invariant-loop-drafted g l = l.numbered.items ≡ map (numbered l.numbers) (take l.drafted-index l.drafted-items)
