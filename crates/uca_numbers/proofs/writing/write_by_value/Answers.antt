-- A code point is a digit of a number that goes on, or it ends a number.
use Rattle.std.proofs.Common.{ap}
use Rattle.uca_numbers.proofs.Written.{digit_branch, other_branch}
use Rattle.uca_numbers.proofs.writing.write_by_value.Goals as goal
use Rattle.uca_numbers.proofs.writing.write_by_value.Goals.{then-not-is_digit+in_ok-write_code+in_ok-push, else-not-is_digit}

pub loop-place-preserved : goal.loop-place-preserved
loop-place-preserved g c = elim c.if-not-is_digit.branch [
  | then-not-is_digit+in_ok-write_code+in_ok-push w ↦
      other_branch c.args.points.now c.loop-place.made.items _ _ c.if-not-is_digit.made.items c.loop-place.start c.if-not-is_digit.start c.loop-place.place c.index-points-place.result c.is_digit.result
      (ap (λ v. v.items) w.made-is) w.start-is c.loop-place-test.true c.index-points-place.is c.is_digit.ensures w.if-not-is_digit.true c.loop-place.invariant
      w.in_ok-write_code.ensures w.in_ok-push.ensures.items
  | else-not-is_digit w ↦
      digit_branch c.args.points.now c.loop-place.made.items c.if-not-is_digit.made.items c.loop-place.start c.if-not-is_digit.start c.loop-place.place c.index-points-place.result c.is_digit.result
      (ap (λ v. v.items) w.made-is) w.start-is c.loop-place-test.true c.index-points-place.is c.is_digit.ensures w.if-not-is_digit.false c.loop-place.invariant
]
