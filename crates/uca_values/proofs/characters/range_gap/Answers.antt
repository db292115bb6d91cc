use Rattle.std.proofs.Common.{arith}
use Rattle.uca_values.specs.declared.CodePointRange.{CodePointRange}
use Rattle.uca_values.proofs.Gaps.{within_common, gap_at_place}
use Rattle.uca_values.proofs.characters.range_gap.Goals as goal
use Rattle.uca_values.proofs.characters.range_gap.Goals.{else-at-ranges-via-then-at-ranges+else-ranges-at, else-at-ranges-via-else-at-ranges}

pub returns-then-ranges-at : goal.returns-then-ranges-at
returns-then-ranges-at c =
    let xs = c.args.ranges.now in let r = c.args.range in
    within_common xs c.requires.rising r.first r.last c.range_place-at.result (record { first = 0; last = 0 }) c.range_place-at.ensures.place (omega arith) c.requires.sound (omega arith)

pub returns : goal.returns
returns c =
    let xs = c.args.ranges.now in let r = c.args.range in
    let no : CodePointRange = record { first = 0; last = 0 } in
    elim c.else-at-ranges.branch [
      | else-at-ranges-via-then-at-ranges+else-ranges-at w ↦
          (c.range_place-at.ensures.bound, gap_at_place (λ (s : CodePointRange). s.first) (λ s. s.last) xs c.requires.rising r.first r.last c.range_place-at.result no c.range_place-at.ensures.place (λ l. omega arith))
      | else-at-ranges-via-else-at-ranges w ↦
          (c.range_place-at.ensures.bound, gap_at_place (λ (s : CodePointRange). s.first) (λ s. s.last) xs c.requires.rising r.first r.last c.range_place-at.result no c.range_place-at.ensures.place (λ l. absurd (omega arith)))
    ]
