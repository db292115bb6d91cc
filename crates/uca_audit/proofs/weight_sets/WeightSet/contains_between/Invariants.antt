-- No weight so far is in the set.
use Rattle.std.proofs.Common.{◌≡◌, ℕ, ◌<◌, false, slice_index_or}
use Rattle.uca_audit.proofs.weight_sets.WeightSet.contains_between.Given as goal

abbrev pub invariant-loop-weight : goal.invariant-loop-weight
invariant-loop-weight g l = (w : ℕ) → l.low < w → w < l.weight → slice_index_or l.flags w false ≡ false
