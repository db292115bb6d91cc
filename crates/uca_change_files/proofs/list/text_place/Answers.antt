-- The test parts the texts, since they rise.
use Rattle.std.proofs.lemmas.List.Sorted.{IsPartitionPoint-from_clause}
use Rattle.std.proofs.Common.{rules}
use Rattle.uca_change_files.proofs.Orders.{below_test, place_from_test, texts_parted, told_less}
use Rattle.uca_change_files.proofs.list.text_place.Goals as goal

pub returns-clause-place : goal.returns-clause-place
returns-clause-place g c =
    let texts = c.args.texts.now in
    let text = c.args.text.now in
    place_from_test text texts _
    (IsPartitionPoint-from_clause (below_test text) _ _ c.partition_point.ensures.partitioned (texts_parted texts c.requires text) (λ a r q k. search rules))
