use Rattle.std.proofs.Common.{sym, arith}
use Rattle.uca_values.specs.declared.CodePointRange.{CodePointRange}
use Rattle.uca_values.proofs.Rising.{range_found, range_missed, range_below, empty_when, by_test, by_test_less}
use Rattle.uca_values.proofs.ranges.is_held.Goals as goal
use Rattle.uca_values.proofs.ranges.is_held.Goals.{then-is_empty-via-then-is_empty, then-is_empty-via-else-is_empty+then-point-ranges}

pub returns-then-is_empty : goal.returns-then-is_empty
returns-then-is_empty c =
    let xs = c.args.ranges.now in let point = c.args.point in
    let no : CodePointRange = record { first = 0; last = 0 } in
    elim c.then-is_empty.branch [
      | then-is_empty-via-then-is_empty w ↦
          sym (range_below xs c.requires point no (λ l. absurd (empty_when _ _ c.is_empty.ensures w.if-is_empty.true l)))
      | then-is_empty-via-else-is_empty+then-point-ranges w ↦ sym (range_below xs c.requires point no (λ _. omega arith))
    ]

pub returns-then-at-ranges : goal.returns-then-at-ranges
returns-then-at-ranges c =
    let xs = c.args.ranges.now in let point = c.args.point in
    let no : CodePointRange = record { first = 0; last = 0 } in
    by_test _ _ _ (λ low. range_found xs c.requires point _ c.range_place-at.ensures.place no (omega arith) low)
    (λ high. range_missed xs c.requires point _ c.range_place-at.ensures.place no (λ _. high))

pub returns-else-at-ranges : goal.returns-else-at-ranges
returns-else-at-ranges c =
    let xs = c.args.ranges.now in let point = c.args.point in
    let no : CodePointRange = record { first = 0; last = 0 } in
    by_test_less _ _ _ (omega arith) (range_missed xs c.requires point _ c.range_place-at.ensures.place no (λ l. absurd (omega arith)))
