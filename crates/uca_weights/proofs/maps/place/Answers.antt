-- The ends of the runs never fall, so a binary search finds the position.
use Rattle.std.proofs.Common.{◌+◌, leb, rules}
use Rattle.std.proofs.lemmas.List.Sorted.{IsPartitionPoint-from_clause, IsPartitionedBy-leb}
use Rattle.uca_weights.specs.declared.maps.Run.{Run}
use Rattle.uca_weights.proofs.RunPlaces.{place_from_tests}
use Rattle.uca_weights.proofs.maps.place.Goals as goal

pub returns-clause-place : goal.returns-clause-place
returns-clause-place c =
    let runs = c.args.runs.now in let weight = c.args.weight in
    let parted = IsPartitionedBy-leb (λ (r : Run). r.from + r.count) runs weight c.requires in
    place_from_tests runs weight _ (IsPartitionPoint-from_clause (λ r. leb (r.from + r.count) weight) _ _ c.partition_point.ensures.partitioned parted (λ a r q k. search rules))
