use Rattle.std.proofs.Common.{ltb, rules}
use Rattle.std.proofs.lemmas.List.Sorted.{IsPartitionPoint-from_clause}
use Rattle.uca_values.specs.declared.CodePointRange.{CodePointRange}
use Rattle.uca_values.proofs.Rising.{parted, place_from_tests}
use Rattle.uca_values.proofs.ranges.range_place.Goals as goal

pub returns-clause-place : goal.returns-clause-place
returns-clause-place c =
    let xs = c.args.ranges.now in let point = c.args.point in
    let sorted = parted (λ (r : CodePointRange). r.first) (λ r. r.last) xs c.requires point in
    place_from_tests (λ (r : CodePointRange). r.last) point xs _ (IsPartitionPoint-from_clause (λ r. ltb r.last point) _ _ c.partition_point.ensures.partitioned sorted (λ a r q k. search rules))
