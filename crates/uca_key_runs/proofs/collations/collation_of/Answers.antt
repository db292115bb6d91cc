-- The rows and the settings are those of the table, which is taken.
use Rattle.std.proofs.Common.{◌∙◌, ap}
use Rattle.uca_weights.specs.AskedSettings.{settings_by}
use Rattle.uca_values.specs.Content.{HeaderContent, properties_of}
use Rattle.uca_match.specs.NumberedKeys.{rows_at}
use Rattle.uca_run_parts.specs.Files.{table_with}
use Rattle.uca_key_runs.proofs.Keyings.{made_of_files}
use Rattle.uca_key_runs.proofs.collations.collation_of.Goals as goal

pub returns-in-Ok-clause-made : goal.returns-in-Ok-clause-made
returns-in-Ok-clause-made g c =
    made_of_files c.args.asked (rows_at c.in-Ok.rows) c.in-Ok.header c.settings.result (table_with c.args.table (properties_of c.args.properties))
    c.in-Ok.ensures.rows c.in-Ok.ensures.header (c.settings.ensures ∙ ap (λ (h : HeaderContent). settings_by c.args.asked h.setting) c.header.view_is)
    c.in_default.ensures.taken
