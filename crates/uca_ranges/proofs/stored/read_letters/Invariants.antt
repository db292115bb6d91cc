use Rattle.std.proofs.Common.{◌≡◌, ◌≤◌, ◌-◌, length, drop}
use Rattle.uca_compact.specs.Forms.{AreWeights}
use Rattle.uca_compact.specs.StoredParts.{stored_level}
use Rattle.uca_compact.specs.inside.StoredEnds.{weights_before}
use Rattle.uca_ranges.proofs.stored.read_letters.Given as goal

abbrev pub invariant-loop-at : goal.invariant-loop-at
invariant-loop-at g l =
    (l.at ≤ length l.key) × AreWeights l.letters.items × (weights_before l.letters.items (stored_level (drop l.at l.key)) ≡ stored_level l.key)

abbrev pub decreases-loop-at : goal.decreases-loop-at
decreases-loop-at g l = length l.key - l.at
