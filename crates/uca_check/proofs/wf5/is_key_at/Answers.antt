use Rattle.std.proofs.Common.{ap, ◌∙◌}
use Rattle.uca_check.proofs.ShorterKeyLemmas.{key_tested}
use Rattle.uca_check.proofs.wf5.is_key_at.Goals as goal

pub returns : goal.returns
returns g c = key_tested c.args.rows.now c.args.at c.index-rows-at.result c.args.key.now c.as_slice.result.now c.eq.result c.requires c.index-rows-at.is (c.as_slice.ensures.value ∙ ap (λ row. row.key) c.row.view_is) c.eq.ensures
