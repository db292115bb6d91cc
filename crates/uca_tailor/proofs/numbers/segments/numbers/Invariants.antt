use Rattle.std.proofs.Common.{◌≡◌, ◌+◌, ◌≤◌, ◌++◌, length, drop}
use Rattle.uca_plans.specs.Numbering.{numbers_of}
use Rattle.uca_plans.specs.inside.OnePass.{numbers_from}
use Rattle.uca_tailor.proofs.numbers.segments.numbers.Given as goal

-- the numbers so far and those of the members that are left are all numbers
abbrev pub invariant-loop-member : goal.invariant-loop-member
invariant-loop-member g l = record {
  told : l.numbers.items ++ numbers_from l.segment.top l.number (drop l.member-index l.members) ≡ numbers_of l.segment l.members;
  left : l.left + l.member-index ≡ length l.members;
  bounded : l.number ≤ 0xFFFF + l.member-index;
}
