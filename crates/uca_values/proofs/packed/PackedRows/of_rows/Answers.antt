-- One more row is packed.
use Rattle.std.proofs.Common.{◌++◌, ◌∷◌, [], List, ap₂, sym, ◌∙◌}
use Rattle.std.proofs.lemmas.List.{take_all}
use Rattle.uca_weights.proofs.Lists.{taken_more}
use Rattle.uca_values.specs.Content.{Entry}
use Rattle.uca_values.proofs.packed.PackedRows.of_rows.Goals as goal

pub loop-row-preserved : goal.loop-row-preserved
loop-row-preserved g c =
    let row : Entry = c.row-item.result in
    c.in_ok-push.ensures.added
    ∙ ap₂ (λ (rows : List Entry) r. rows ++ r ∷ []) c.loop-row.invariant
    (ap₂ (λ k e. record { key = k; elements = e }) c.deref.ensures.value c.deref-in-loop-row.ensures.value ∙ c.row.view_is)
    ∙ sym (taken_more c.args.rows.now c.loop-row.row-index row c.loop-row-test.true c.row-item.is)

pub returns : goal.returns
returns g c = c.loop-row.invariant ∙ take_all c.loop-row.row-index c.args.rows.now c.loop-row-test.false
