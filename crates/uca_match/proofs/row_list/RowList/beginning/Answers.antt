use Rattle.std.proofs.Common.{ap, ◌∙◌, sym, length}
use Rattle.uca_match.proofs.RowPlaces.{node_past, node_row}
use Rattle.uca_match.proofs.row_list.RowList.beginning.Goals as goal

pub returns-then-node-rows : goal.returns-then-node-rows
returns-then-node-rows g c = node_past c.args.self.now.rows.now c.args.node c.if-node-rows.true

pub returns : goal.returns
returns g c =
    node_row c.args.self.now.rows.now c.args.node c.index-rows-node.result c.deref.result.now c.len.result c.min-len.result c.if-node-rows.false
    c.index-rows-node.is
    (c.deref.ensures.value ∙ ap (λ row. row.key) c.row.view_is)
    (c.len.ensures ∙ c.row.inside.key.ok.0 ∙ ap (λ row. length row) (sym c.deref.ensures.value)) c.min-len.ensures
