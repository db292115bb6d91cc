-- The spans at a position name the row there.
use Rattle.std.proofs.Common.{◌<◌, ◌≤◌, ◌-◌, List, length, take, drop, ap, sym, subst, ◌∙◌, arith}
use Rattle.uca_weights.specs.declared.Element.{Element}
use Rattle.uca_values.specs.Content.{Entry}
use Rattle.uca_values.proofs.RowParts.{spans_reach, row_spans, row_of_spans}
use Rattle.uca_values.proofs.packed.PackedRows.elements.Goals as goal

pub index-requires : goal.index-requires
index-requires g c =
    let inside = c.self.inside in
    subst (λ n. c.args.at < n) (sym inside.spans.ok.0)
    (spans_reach inside.points.items inside.elements.items inside.spans.items c.args.self.now c.args.at c.self.view_is c.requires)

pub offset_bounds-deref-span : goal.offset_bounds-deref-span
offset_bounds-deref-span g c =
    let inside = c.self.inside in
    let span = (row_spans inside.points.items inside.elements.items inside.spans.items c.args.at c.index.result.now c.self.invariant
    (spans_reach inside.points.items inside.elements.items inside.spans.items c.args.self.now c.args.at c.self.view_is c.requires) c.index.ensures).1 in
    omega (arith, span.0, span.1, ap length c.deref.ensures.value, c.deref.type_inv.1)

pub slice_bounds-result-count : goal.slice_bounds-result-count
slice_bounds-result-count g c =
    let inside = c.self.inside in
    (row_spans inside.points.items inside.elements.items inside.spans.items c.args.at c.index.result.now c.self.invariant
    (spans_reach inside.points.items inside.elements.items inside.spans.items c.args.self.now c.args.at c.self.view_is c.requires) c.index.ensures).1.0

pub slice_bounds-result-end : goal.slice_bounds-result-end
slice_bounds-result-end g c =
    let inside = c.self.inside in
    subst (λ (l : List Element). c.index.result.now.elements.end ≤ length l) (sym c.deref.ensures.value)
    (row_spans inside.points.items inside.elements.items inside.spans.items c.args.at c.index.result.now c.self.invariant
    (spans_reach inside.points.items inside.elements.items inside.spans.items c.args.self.now c.args.at c.self.view_is c.requires) c.index.ensures).1.1

pub returns : goal.returns
returns g c d =
    let inside = c.self.inside in
    let span = c.index.result.now.elements in
    ap (λ (l : List Element). take (span.end - span.start) (drop span.start l)) c.deref.ensures.value
    ∙ ap (λ (row : Entry). row.elements) (row_of_spans inside.points.items inside.elements.items inside.spans.items c.args.self.now c.args.at
    c.index.result.now d c.self.view_is c.requires c.index.ensures)
