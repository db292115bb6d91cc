-- One more row is copied.
use Rattle.std.proofs.Common.{◌<◌, ◌++◌, ◌∷◌, [], List, ap₂, sym, subst, ◌∙◌}
use Rattle.std.proofs.lemmas.List.{take_more}
use Rattle.uca_values.specs.Content.{Entry}
use Rattle.uca_values.proofs.packed.unpacked.Goals as goal

pub row_at-requires : goal.row_at-requires
row_at-requires g c = subst (λ n. c.loop-at.at < n) c.len-at-end.ensures c.loop-at-test.true

pub loop-at-preserved : goal.loop-at-preserved
loop-at-preserved g c =
    let row : Entry = c.in_ok-row_at.field-0 in
    c.in_ok-push.ensures.items ∙ ap₂ (λ (rows : List Entry) r. rows ++ r ∷ []) c.loop-at.invariant (c.in_ok-row_at.ensures row)
    ∙ sym (take_more c.args.packed.now c.loop-at.at row (subst (λ n. c.loop-at.at < n) c.len-at-end.ensures c.loop-at-test.true))
