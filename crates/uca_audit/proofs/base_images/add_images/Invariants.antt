-- The set has the images of the elements so far.
use Rattle.std.proofs.Common.{take, ◌++◌}
use Rattle.uca_check.specs.WellFormed.{elements_of}
use Rattle.uca_tailorings.specs.Inputs.{maps_of}
use Rattle.uca_audit.specs.inside.KnownWeights.{HoldsImages}
use Rattle.uca_audit.proofs.base_images.add_images.Given as goal

abbrev pub invariant-loop-element : goal.invariant-loop-element
invariant-loop-element g l =
    HoldsImages (maps_of l.images) (elements_of (take l.row-index l.rows) ++ take l.element-index l.element-items) l.known

abbrev pub invariant-loop-row : goal.invariant-loop-row
invariant-loop-row g l = HoldsImages (maps_of l.images) (elements_of (take l.row-index l.rows)) l.known
