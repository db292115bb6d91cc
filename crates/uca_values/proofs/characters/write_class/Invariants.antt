use Rattle.std.proofs.Common.{◌≡◌, ℕ, ◌<◌, ◌≤◌, get_or}
use Rattle.uca_values.proofs.characters.write_class.Given as goal

abbrev pub invariant-loop-place : goal.invariant-loop-place
invariant-loop-place l = record {
  below : (point : ℕ) → point < l.range.first → get_or l.low_classes point 0 ≡ get_or l.fn.low_classes point 0;
  written : (point : ℕ) → l.range.first ≤ point → point < l.place → get_or l.low_classes point 0 ≡ l.range.class;
  above : (point : ℕ) → l.place ≤ point → get_or l.low_classes point 0 ≡ get_or l.fn.low_classes point 0;
}
