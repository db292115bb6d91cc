use Rattle.std.proofs.Common.{ℕ, List, take, Contains}
use Rattle.uca_text.specs.Occurring.{OccursInOrder}
use Rattle.uca_rules.proofs.growing.occurs_in_one.Given as goal

abbrev pub invariant-loop-text : goal.invariant-loop-text
invariant-loop-text g l = (text : List ℕ) → Contains (take l.text-index l.texts) text → ¬ (OccursInOrder l.part text)
