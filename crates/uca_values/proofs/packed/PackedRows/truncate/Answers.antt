-- The first rows have the first spans.
use Rattle.std.proofs.Common.{sym, ap, subst, take, ◌∙◌}
use Rattle.uca_values.specs.inside.RowParts.{AreSpans, rows_in}
use Rattle.uca_values.proofs.RowParts.{rows_take, spans_take}
use Rattle.uca_values.proofs.packed.PackedRows.truncate.Goals as goal

pub invariant_of-self : goal.invariant_of-self
invariant_of-self g c =
    let inside = c.self.inside in
    subst (AreSpans inside.points.items inside.elements.items) (sym c.truncate.ensures.items)
    (spans_take inside.points.items inside.elements.items c.args.len inside.spans.items c.self.invariant)

pub returns : goal.returns
returns g c =
    let inside = c.self.inside in
    ap (rows_in inside.points.items inside.elements.items) c.truncate.ensures.items
    ∙ rows_take inside.points.items inside.elements.items c.args.len inside.spans.items
    ∙ ap (take c.args.len) c.self.view_is
