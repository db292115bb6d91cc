-- What keys go by, by its parts, and under a table and a data file.
use Rattle.std.proofs.Common.{◌≡◌, ap, ap₂, ◌∙◌}
use Rattle.uca_weights.specs.declared.Asked.{Asked}
use Rattle.uca_weights.specs.declared.Settings.{Settings}
use Rattle.uca_weights.specs.AskedSettings.{settings_by}
use Rattle.uca_values.specs.Content.{HeaderContent}
use Rattle.uca_elements.specs.Rows.{Rows, rows_of}
use Rattle.uca_elements.specs.Collations.{Collation, collation_over}
use Rattle.uca_number_keys.specs.Tables.{TakesTable}
use Rattle.uca_run_parts.specs.Files.{TableAndData}
use Rattle.uca_order.specs.Keyings.{keying, keying_by}
use Rattle.uca_key_runs.specs.Keys.{IsCollation}

-- it is the same where its parts are
pub same_parts : {now before : Collation} {settings settings_before : Settings} → now ≡ before → settings ≡ settings_before
    → keying_by now settings ≡ keying_by before settings_before
same_parts same same_settings = ap₂ (λ c s. keying_by c s) same same_settings

-- a collator of what was read, and the settings that were chosen
pub same_keying : (asked : Asked) (made read : Collation) (settings : Settings) (files : TableAndData)
    → made ≡ read → IsCollation asked read settings files
    → keying_by made settings ≡ keying asked files.table files.properties
same_keying asked made read settings files same is = same_parts (same ∙ is.0) is.1

-- what is made of files goes by them
pub made_of_files : (asked : Asked) (rows : Rows) (header : HeaderContent) (settings : Settings) (files : TableAndData)
    → rows ≡ rows_of files.table.rows → header ≡ files.table.header → settings ≡ settings_by asked header.setting → TakesTable asked.numbers files.table files.properties
    → IsCollation asked (collation_over rows header files.properties) settings files
made_of_files asked rows header settings files same_rows same_header same_settings takes = (
  ap₂ (λ r h. collation_over r h files.properties) same_rows same_header,
  same_settings ∙ ap (λ (h : HeaderContent). settings_by asked h.setting) same_header,
  takes,
)
