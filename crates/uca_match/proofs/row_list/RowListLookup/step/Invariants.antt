use Rattle.std.proofs.Common.{◌≡◌, ℕ, ◌+◌, [], ◌∷◌, ◌++◌, ◌<◌, length, take}
use Rattle.uca_match.specs.RowLists.{key_at}
use Rattle.uca_match.proofs.row_list.RowListLookup.step.Given as goal

abbrev pub invariant-loop-i : goal.invariant-loop-i
invariant-loop-i g l = (k : ℕ) → k < l.i → take (length l.start + 1) (key_at l.self.rows.now k) ≡ l.start ++ l.c ∷ [] → ⊥
