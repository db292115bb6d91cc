use Rattle.std.proofs.Common.{◌-◌, length, ap, sym, ◌∙◌, arith}
use Rattle.uca_values.specs.Content.{properties_of}
use Rattle.uca_check.proofs.ShorterKeyLemmas.{by_last, longer_meets}
use Rattle.uca_check.proofs.wf5.shorter_key.Goals as goal

pub returns : goal.returns
returns g c rows =
    let key = c.as_slice.result.now in
    let class = (properties_of c.args.«data».now).class in
    let same = c.as_slice.ensures.value ∙ ap (λ row. row.key) c.row.view_is in
    let split = by_last key (length key - 1) c.last-item.result (omega arith) c.last-item.is in
    longer_meets class rows c.args.row.now _ c.last-item.result (sym same ∙ split) c.if-front-lt2.false (λ starter. c.if-class-eq0.false (c.class.ensures ∙ starter))
