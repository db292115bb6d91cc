use Rattle.std.proofs.Common.{◌≡◌, ◌≤◌, length, take}
use Rattle.uca_plain.proofs.plain.first_elements.Given as goal

-- the entry has the elements so far
abbrev pub invariant-loop-element : goal.invariant-loop-element
invariant-loop-element g l = record {
  point : l.known.point ≡ l.bound.point;
  len : l.known.len ≡ l.bound.len;
  starts : l.known.starts ≡ l.bound.starts;
  few : l.known.count ≤ 3;
  room : length l.known.elements ≡ 3;
  elements : take l.known.count l.known.elements ≡ l.yielded;
}
