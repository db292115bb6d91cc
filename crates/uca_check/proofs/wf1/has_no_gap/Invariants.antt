use Rattle.std.proofs.Common.{◌↔◌, IsTrue, take}
use Rattle.uca_check.specs.WellFormed.{EndsWithLead}
use Rattle.uca_check.proofs.GapLemmas.{AreGapless}
use Rattle.uca_check.proofs.wf1.has_no_gap.Given as goal

abbrev pub invariant-loop-element : goal.invariant-loop-element
invariant-loop-element g l = record {
  gapless : AreGapless (take l.element-index l.element-items);
  behind : IsTrue l.after_lead ↔ EndsWithLead (take l.element-index l.element-items);
}
