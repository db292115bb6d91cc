use Rattle.std.proofs.Common.{◌-◌, length}
use Rattle.uca_check.proofs.wf5_batch.ShorterKeys.next.Given as goal

abbrev pub decreases-loop-self : goal.decreases-loop-self
decreases-loop-self g l = length l.rows - l.self.end
