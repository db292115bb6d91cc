use Rattle.std.proofs.Common.{arith}
use Rattle.uca_values.specs.declared.ClassRange.{ClassRange}
use Rattle.uca_values.proofs.Gaps.{class_in_common, gap_at_place}
use Rattle.uca_values.proofs.characters.class_gap.Goals as goal
use Rattle.uca_values.proofs.characters.class_gap.Goals.{else-at-ranges-via-then-at-ranges+else-ranges-at, else-at-ranges-via-else-at-ranges}

pub returns-then-ranges-at : goal.returns-then-ranges-at
returns-then-ranges-at c =
    let xs = c.args.ranges.now in let r = c.args.range in
    class_in_common xs c.requires.rising c.requires.numbers r.first r.last c.class_place-at.result (record { first = 0; last = 0; class = 0 }) c.class_place-at.ensures.place (omega arith) c.requires.sound (omega arith)

pub returns : goal.returns
returns c =
    let xs = c.args.ranges.now in let r = c.args.range in
    let no : ClassRange = record { first = 0; last = 0; class = 0 } in
    elim c.else-at-ranges.branch [
      | else-at-ranges-via-then-at-ranges+else-ranges-at w ↦
          (c.class_place-at.ensures.bound, gap_at_place (λ (s : ClassRange). s.first) (λ s. s.last) xs c.requires.rising r.first r.last c.class_place-at.result no c.class_place-at.ensures.place (λ l. omega arith))
      | else-at-ranges-via-else-at-ranges w ↦
          (c.class_place-at.ensures.bound, gap_at_place (λ (s : ClassRange). s.first) (λ s. s.last) xs c.requires.rising r.first r.last c.class_place-at.result no c.class_place-at.ensures.place (λ l. absurd (omega arith)))
    ]
