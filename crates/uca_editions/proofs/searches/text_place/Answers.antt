use Rattle.std.proofs.Common.{ltb, rules}
use Rattle.std.proofs.lemmas.List.Sorted.{IsPartitionPoint-from_clause}
use Rattle.uca_values.proofs.Rising.{place_from_tests}
use Rattle.uca_editions.specs.inside.Index.{first_of}
use Rattle.uca_editions.proofs.SearchLaws.{firsts_parted}
use Rattle.uca_editions.proofs.searches.text_place.Goals as goal

pub returns-clause-place : goal.returns-clause-place
returns-clause-place g c =
    let texts = c.args.texts.now in let point = c.args.point in
    place_from_tests first_of point texts _
    (IsPartitionPoint-from_clause (λ text. ltb (first_of text) point) _ _ c.partition_point.ensures.partitioned (firsts_parted texts c.requires point) (λ a r q k. search rules))
