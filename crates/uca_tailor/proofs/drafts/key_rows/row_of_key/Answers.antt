use Rattle.std.proofs.Common.{sym, ◌∙◌}
use Rattle.uca_tailor.proofs.DraftLemmas.KeyLookups.{row_found}
use Rattle.uca_tailor.proofs.drafts.key_rows.row_of_key.Goals as goal

pub returns : goal.returns
returns g c keys held = row_found keys c.args.key.now c.position.result (sym (c.position.ensures ∙ held c.args.key.now))
