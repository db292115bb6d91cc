-- Only spaces were passed.
use Rattle.std.proofs.Common.{◌≡◌, ℕ, ◌-◌, ◌≤◌, List, ◌∷◌, length}
use Rattle.uca_rekey.proofs.LineKeys.{written_from}
use Rattle.uca_rekey.proofs.changed_line.write_digit.Given as goal

abbrev pub invariant-loop-at : goal.invariant-loop-at
invariant-loop-at l = record {
  within : l.at ≤ length l.line;
  passed : (digit : ℕ) (digits : List ℕ) → written_from l.line l.initial.at (digit ∷ digits) ≡ written_from l.line l.at (digit ∷ digits);
}

abbrev pub decreases-loop-at : goal.decreases-loop-at
decreases-loop-at l = length l.line - l.at
