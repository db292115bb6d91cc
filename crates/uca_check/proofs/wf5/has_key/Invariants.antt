use Rattle.std.proofs.Common.{ℕ, ◌+◌, ◌<◌, length}
use Rattle.uca_check.proofs.ShorterKeyLemmas.{IsNotAt}
use Rattle.uca_check.proofs.wf5.has_key.Given as goal

abbrev pub invariant-loop-step : goal.invariant-loop-step
invariant-loop-step g l = (k : ℕ) → k < length l.rows → l.from < k + l.step → k < l.from + l.step → IsNotAt l.rows l.key k
