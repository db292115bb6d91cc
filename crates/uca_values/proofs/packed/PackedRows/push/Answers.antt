-- What is added last changes no row before it.
use Rattle.std.proofs.Common.{[], refl, sym, ap, ◌∙◌, ◌++◌, ◌∷◌, append-nil}
use Rattle.std.proofs.lemmas.Result.{err_from_is_err_and}
use Rattle.uca_values.proofs.RowParts.{rows_push, rows_stay, spans_push, spans_stay}
use Rattle.uca_values.proofs.packed.PackedRows.push.Goals as goal

pub returns-in_err-elements-clause-unchanged : goal.returns-in_err-elements-clause-unchanged
returns-in_err-elements-clause-unchanged g c =
    let inside = c.self.inside in
    let p = err_from_is_err_and c.from_residual-in_err-elements.result c.from_residual-in_err-elements.ensures.1 in
    rw p.1 (rows_stay inside.points.items c.args.key.now _ inside.elements.items [] _ inside.spans.items _ c.self.invariant c.in_ok-key.ensures.added
    (c.in_err-elements.ensures.unchanged ∙ sym (append-nil inside.elements.items)) refl ∙ c.self.view_is)

pub invariant_of-self-in_err-push : goal.invariant_of-self-in_err-push
invariant_of-self-in_err-push g c =
    let inside = c.self.inside in
    spans_stay inside.points.items c.args.key.now _ inside.elements.items c.args.elements.now _ inside.spans.items _ c.self.invariant c.in_ok-key.ensures.added
    c.in_ok-elements.ensures.added c.in_err-push.ensures.items

pub returns-in_err-push-clause-unchanged : goal.returns-in_err-push-clause-unchanged
returns-in_err-push-clause-unchanged g c =
    let inside = c.self.inside in
    let p = err_from_is_err_and c.from_residual-in_err-push.result c.from_residual-in_err-push.ensures.1 in
    rw p.1 (rows_stay inside.points.items c.args.key.now _ inside.elements.items c.args.elements.now _ inside.spans.items _ c.self.invariant
    c.in_ok-key.ensures.added c.in_ok-elements.ensures.added c.in_err-push.ensures.items ∙ c.self.view_is)

pub invariant_of-self-2 : goal.invariant_of-self-2
invariant_of-self-2 g c =
    let inside = c.self.inside in
    spans_push inside.points.items c.args.key.now _ inside.elements.items c.args.elements.now _ inside.spans.items _ _ c.self.invariant
    c.in_ok-key.ensures.added c.in_ok-elements.ensures.added c.in_ok-push.ensures.items c.in_ok-key.ensures.span c.in_ok-elements.ensures.span

pub returns-clause-added : goal.returns-clause-added
returns-clause-added g c =
    let inside = c.self.inside in
    rows_push inside.points.items c.args.key.now _ inside.elements.items c.args.elements.now _ inside.spans.items _ _ c.self.invariant
    c.in_ok-key.ensures.added c.in_ok-elements.ensures.added c.in_ok-push.ensures.items c.in_ok-key.ensures.span c.in_ok-elements.ensures.span
    ∙ ap (λ (rows : _). rows ++ record { key = c.args.key.now; elements = c.args.elements.now } ∷ []) c.self.view_is
