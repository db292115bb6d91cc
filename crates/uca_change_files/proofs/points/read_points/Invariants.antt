-- The code points so far are read.
use Rattle.std.proofs.Common.{length}
use Rattle.uca_change_files.proofs.Words.{HasRead}
use Rattle.uca_change_files.proofs.points.read_points.Given as goal

abbrev pub invariant-loop-more : goal.invariant-loop-more
invariant-loop-more g l = HasRead l.text l.points.items l.rest

abbrev pub decreases-loop-more : goal.decreases-loop-more
decreases-loop-more g l = length l.rest
