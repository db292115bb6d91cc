use Rattle.std.proofs.Common.{◌≡◌, ◌+◌, ◌≤◌, drop}
use Rattle.uca_compact.specs.PlainLevels.{letters_after, letter_count}
use Rattle.uca_compact.proofs.plain.letter_count.Given as goal

abbrev pub invariant-loop-weight : goal.invariant-loop-weight
invariant-loop-weight l = (l.count ≤ l.weight-index) × (l.count + letters_after l.after_lead (drop l.weight-index l.weights) ≡ letter_count l.weights)
