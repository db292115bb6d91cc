-- The files are those that `open` reads, and the settings are those of the table which they mean.
use Rattle.std.proofs.Common.{◌≡◌, ◌∙◌, ap}
use Rattle.uca_weights.specs.AskedSettings.{settings_by}
use Rattle.uca_values.specs.Content.{TableContent, properties_of}
use Rattle.uca_fingerprint.specs.Fingerprints.{fingerprint}
use Rattle.uca_owned.proofs.fingerprints.fingerprint_of.Goals as goal

-- the fingerprint is by the settings under the table that was read
by_table : (c : goal.After-fingerprint) → c.fingerprint.result ≡ fingerprint (settings_by c.args.asked c.in-Ok.read.header.setting) c.args.table.now c.args.data_file.now
by_table c =
    let settings = c.settings-settings.ensures ∙ ap (λ t. settings_by c.args.asked t.header.setting) c.read-inside.view_is
    ∙ ap (λ (t : TableContent). settings_by c.args.asked t.header.setting) c.read.view_is in
    c.fingerprint.ensures ∙ (λ i. fingerprint (settings i) c.args.table.now c.args.data_file.now)

pub returns-clause-found : goal.returns-clause-found
returns-clause-found c = record {
  table = c.in-Ok.read;
  properties = properties_of c.in-Ok-data_of.properties;
  mean = record {
    table_file = c.in-Ok.ensures.found;
    data_file = c.in-Ok-data_of.ensures.found;
  };
  same = by_table c;
}

pub returns-clause-only : goal.returns-clause-only
returns-clause-only c meant properties mean =
    let table_same = c.in-Ok.ensures.only meant mean.table_file in
    by_table c ∙ (λ i. fingerprint (settings_by c.args.asked (table_same i).header.setting) c.args.table.now c.args.data_file.now)

pub returns-in-Err-clause-only : goal.returns-in-Err-clause-only
returns-in-Err-clause-only c meant properties mean = c.in-Err.ensures.only meant mean.table_file

pub returns-in-Err-data_of-clause-only : goal.returns-in-Err-data_of-clause-only
returns-in-Err-data_of-clause-only c meant properties mean = c.in-Err-data_of.ensures.only properties mean.data_file
