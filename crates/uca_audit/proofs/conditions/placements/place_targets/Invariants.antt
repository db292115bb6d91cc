use Rattle.std.proofs.Common.{take}
use Rattle.std.specs.List.{AllByRecursion, AllZip}
use Rattle.uca_tailorings.specs.Tailorings.{IsPlaced}
use Rattle.uca_audit.specs.inside.Views.{IsPlacement, tailoring_in}
use Rattle.uca_audit.proofs.conditions.placements.place_targets.Given as goal

abbrev pub invariant-loop-at : goal.invariant-loop-at
invariant-loop-at g l = record {
  placed : AllByRecursion (IsPlaced (tailoring_in l.inputs)) (take l.at l.relation-items);
  list : AllZip (IsPlacement (tailoring_in l.inputs)) (take l.at l.relation-items) l.list.items;
}
