-- The code points so far are whole, so the rest decides.
use Rattle.std.proofs.Common.{◌≡◌, length}
use Rattle.uca_tailorings.specs.Moves.{are_points}
use Rattle.uca_images.proofs.mover.are_code_points.Given as goal

abbrev pub invariant-loop-rest : goal.invariant-loop-rest
invariant-loop-rest l = are_points l.initial.rest ≡ are_points l.rest

abbrev pub decreases-loop-rest : goal.decreases-loop-rest
decreases-loop-rest l = length l.rest
