use Rattle.std.proofs.Common.{◌↔◌, ◌≤◌, length, drop}
use Rattle.uca_text.specs.Occurring.{OccursInOrder}
use Rattle.uca_text.proofs.in_order.occurs_in_order.Given as goal

abbrev pub invariant-loop-c : goal.invariant-loop-c
invariant-loop-c l = (l.at ≤ length l.part) × (OccursInOrder l.part l.text ↔ OccursInOrder (drop l.at l.part) (drop l.c-index l.text))
