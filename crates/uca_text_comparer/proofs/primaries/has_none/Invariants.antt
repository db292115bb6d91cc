use Rattle.std.proofs.Common.{drop}
use Rattle.uca_text_comparer.specs.Heads.{HaveNone}
use Rattle.uca_text_comparer.proofs.primaries.has_none.Given as goal

-- none so far has a weight
abbrev pub invariant-loop-element : goal.invariant-loop-element
invariant-loop-element l = HaveNone l.weighting (drop l.element-index l.elements) → HaveNone l.weighting l.elements
