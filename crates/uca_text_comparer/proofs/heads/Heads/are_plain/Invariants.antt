use Rattle.std.proofs.Common.{◌+◌, ◌-◌, ◌<◌, ◌≤◌, ℕ}
use Rattle.uca_elements.specs.Collations.{Collation}
use Rattle.uca_plain.specs.Plain.{IsPlain}
use Rattle.uca_text_comparer.specs.Heads.{AreHeadsFrom}
use Rattle.uca_text_comparer.proofs.heads.Heads.are_plain.Given as goal

-- those so far are plain
abbrev pub invariant-loop-code : goal.invariant-loop-code
invariant-loop-code l = record {
  from : l.from ≤ l.code;
  to : l.code ≤ l.from + 64;
  plain : (c : Collation) → AreHeadsFrom c l.self.weighting 0 l.self.items.items → (x : ℕ) → l.from ≤ x → x < l.code → IsPlain c x;
}

abbrev pub decreases-loop-code : goal.decreases-loop-code
decreases-loop-code l = l.from + 64 - l.code
