use Rattle.std.proofs.Common.{sym, arith}
use Rattle.uca_values.specs.declared.ClassRange.{ClassRange}
use Rattle.uca_values.proofs.Rising.{class_found, class_missed, class_below, empty_when}
use Rattle.uca_values.proofs.characters.class_at.Goals as goal
use Rattle.uca_values.proofs.characters.class_at.Goals.{then-is_empty-via-then-is_empty, then-is_empty-via-else-is_empty+then-point-ranges, else-at-ranges-via-then-at-ranges+else-ranges-at, else-at-ranges-via-else-at-ranges}

pub returns-then-is_empty : goal.returns-then-is_empty
returns-then-is_empty c =
    let xs = c.args.ranges.now in let point = c.args.point in
    let no : ClassRange = record { first = 0; last = 0; class = 0 } in
    elim c.then-is_empty.branch [
      | then-is_empty-via-then-is_empty w ↦
          sym (class_below xs c.requires point no (λ l. absurd (empty_when _ _ c.is_empty.ensures w.if-is_empty.true l)))
      | then-is_empty-via-else-is_empty+then-point-ranges w ↦ sym (class_below xs c.requires point no (λ _. omega arith))
    ]

pub returns-then-ranges-at : goal.returns-then-ranges-at
returns-then-ranges-at c = sym (class_found _ c.requires c.args.point _ c.class_place-at.ensures.place _ (omega arith) (omega arith))

pub returns-else-at-ranges : goal.returns-else-at-ranges
returns-else-at-ranges c =
    let xs = c.args.ranges.now in let point = c.args.point in
    let no : ClassRange = record { first = 0; last = 0; class = 0 } in
    elim c.else-at-ranges.branch [
      | else-at-ranges-via-then-at-ranges+else-ranges-at w ↦ sym (class_missed xs c.requires point _ c.class_place-at.ensures.place no (λ _. omega arith))
      | else-at-ranges-via-else-at-ranges w ↦ sym (class_missed xs c.requires point _ c.class_place-at.ensures.place no (λ l. absurd (omega arith)))
    ]
