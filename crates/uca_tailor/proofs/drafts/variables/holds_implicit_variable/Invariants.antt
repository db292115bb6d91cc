-- None of the elements so far is such a one.
use Rattle.std.proofs.Common.{◌≡◌, ◌&&◌, drop}
use Rattle.std.specs.List.{list_any}
use Rattle.uca_tailor.specs.inside.Variables.{is_within}
use Rattle.uca_tailor.proofs.drafts.variables.holds_implicit_variable.Given as goal

abbrev pub invariant-loop-element : goal.invariant-loop-element
invariant-loop-element l = list_any (λ e. e.implicit && is_within l.span e.primary) l.elements ≡ list_any (λ e. e.implicit && is_within l.span e.primary) (drop l.element-index l.elements)
