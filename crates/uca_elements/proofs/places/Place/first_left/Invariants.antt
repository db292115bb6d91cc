use Rattle.std.proofs.Common.{◌≡◌, ◌-◌, ◌≤◌, length}
use Rattle.uca_elements.specs.Places.{left_at, left_of}
use Rattle.uca_elements.proofs.places.Place.first_left.Given as goal

abbrev pub invariant-loop-i : goal.invariant-loop-i
invariant-loop-i l = record {
  begun : l.self.at ≤ l.i;
  within : l.i ≤ length l.text.points;
  same_left : left_at l.text l.self l.i ≡ left_of l.text l.self;
}

abbrev pub decreases-loop-i : goal.decreases-loop-i
decreases-loop-i l = l.len - l.i
