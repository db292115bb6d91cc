use Rattle.std.proofs.Common.{ℕ, ◌+◌, ◌-◌, List, length, ◌++◌, take}
use Rattle.uca_weights.specs.declared.Element.{Element}
use Rattle.uca_key_writer.specs.inside.LevelBuffers.{HasRoom, HoldsLevels, levels_of}
use Rattle.uca_key_writer.proofs.slots.put_elements.Given as goal

-- the elements so far were put
abbrev pub invariant-loop-element : goal.invariant-loop-element
invariant-loop-element l = record {
  some : HasRoom (length l.elements - l.element-index) l.counts l.primary l.secondary l.tertiary l.quaternary;
  room : (n : ℕ) → HasRoom (n + length l.elements) l.initial.counts l.initial.primary l.initial.secondary l.initial.tertiary l.initial.quaternary →
      HasRoom (n + (length l.elements - l.element-index)) l.counts l.primary l.secondary l.tertiary l.quaternary;
  holds : (key : List ℕ) (es : List Element) →
      HoldsLevels l.weighting es (levels_of l.initial.after_variable l.initial.counts l.initial.primary l.initial.secondary l.initial.tertiary l.initial.quaternary key) →
      HoldsLevels l.weighting (es ++ take l.element-index l.elements) (levels_of l.after_variable l.counts l.primary l.secondary l.tertiary l.quaternary key);
}
