use Rattle.std.proofs.Common.{ltb, rules}
use Rattle.std.proofs.lemmas.List.Sorted.{IsPartitionPoint-from_clause, IsPartitionedBy-ltb}
use Rattle.uca_match.specs.declared.key_map.Edge.{Edge}
use Rattle.uca_match.proofs.TrieEdges.{never_falling, place_from_tests}
use Rattle.uca_match.proofs.key_map.place.Goals as goal

pub returns-clause-place : goal.returns-clause-place
returns-clause-place c =
    let edges = c.args.edges.now in let point = c.args.point in
    let parted = IsPartitionedBy-ltb (λ (e : Edge). e.point) edges point (never_falling edges c.requires) in
    place_from_tests edges point _ (IsPartitionPoint-from_clause (λ e. ltb e.point point) _ _ c.partition_point.ensures.partitioned parted
    (λ a r q k. search rules))
