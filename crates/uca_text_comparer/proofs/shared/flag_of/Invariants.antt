use Rattle.std.proofs.Common.{◌≡◌, drop}
use Rattle.uca_text_comparer.specs.inside.Shared.{flag_after}
use Rattle.uca_text_comparer.proofs.shared.flag_of.Given as goal

abbrev pub invariant-loop-element : goal.invariant-loop-element
invariant-loop-element l = flag_after l.flag (drop l.element-index l.elements) ≡ flag_after l.after_variable l.elements
