-- The key of one more row is lent, and then that of each.
use Rattle.std.proofs.Common.{ap, ◌∙◌}
use Rattle.std.proofs.lemmas.List.{take_all}
use Rattle.uca_values.specs.Content.{Entry, keys_of}
use Rattle.uca_match.specs.NumberedKeys.{points_of}
use Rattle.uca_match.proofs.PlacedKeys.{mapped_more}
use Rattle.uca_match.proofs.trie.key_list.Goals as goal

pub loop-row-preserved : goal.loop-row-preserved
loop-row-preserved g c =
    mapped_more (λ key. key.now) (λ (row : Entry). row.key) c.loop-row.list.items c.push.new.self.items c.args.rows.now c.loop-row.row-index
    c.as_slice.result c.row-item.result c.loop-row-test.true c.row-item.is
    (c.as_slice.ensures.value ∙ ap (λ (row : Entry). row.key) c.row.view_is) c.in_ok-push.ensures.items c.loop-row.invariant

pub loop-row-init : goal.loop-row-init
loop-row-init g c = ap points_of c.in_ok-list.ensures.items

pub returns : goal.returns
returns g c = c.loop-row.invariant ∙ ap keys_of (take_all c.loop-row.row-index c.args.rows.now c.loop-row-test.false)
