-- The rows and the settings are those of the table that was read, or a file is rejected.
use Rattle.std.specs.Prelude.{⊤, MatchResult}
use Rattle.std.proofs.Common.{◌≡◌, [], ◌∷◌, subst}
use Rattle.uca_values.specs.Content.{properties_of}
use Rattle.uca_match.specs.OwnedCollations.{owned_collation}
use Rattle.uca_key_runs.specs.Keys.{IsCollation}
use Rattle.uca_key_runs.specs.inside.Collations.{IsNoCollation}
use Rattle.uca_run_parts.specs.Files.{table_and_data, table_and_data_roles, table_with}
use Rattle.uca_run_parts.proofs.FilesLemmas.{ended_by_files, failed_by_no_file, runs_over_all}
use Rattle.uca_key_runs.proofs.Rows.{before_input, both_outcomes, no_file}
use Rattle.uca_key_runs.proofs.collations.read_collation.Goals as goal

pub returns-in-Err-clause-read : goal.returns-in-Err-clause-read
returns-in-Err-clause-read g c =
    ended_by_files ⊤ ⊤ table_and_data (c.args.table.now ∷ c.args.properties.now ∷ [])
    (c.read_packed_files.new.table ∷ c.read_packed_files.new.properties ∷ []) (λ content. IsNoCollation c.args.asked content c.in-Err.fault) c.in-Err.fault c.in-Err.ensures.read

pub returns-in-Ok-clause-read : goal.returns-in-Ok-clause-read
returns-in-Ok-clause-read g c =
    let read = table_with c.in-Ok.files.0 (properties_of c.in-Ok.files.1) in
    let made = c.collation_of.result in
    let refused = c.collation_of.ensures.refused in
    runs_over_all {B = ⊤} table_and_data (c.args.table.now ∷ c.args.properties.now ∷ [])
    (c.read_packed_files.new.table ∷ c.read_packed_files.new.properties ∷ []) (λ content. read ≡ content)
    _ tt made (no_file c.args.asked read made refused)
    (λ content same. subst (λ it. MatchResult made (λ r. IsCollation c.args.asked (owned_collation r.collation) r.settings it)
    (IsNoCollation c.args.asked it)) same (both_outcomes made _ _ c.collation_of.ensures.made refused))
    c.in-Ok.ensures.read

pub returns-in-Ok-clause-before_input : goal.returns-in-Ok-clause-before_input
returns-in-Ok-clause-before_input g c =
    before_input c.args.asked (table_with c.in-Ok.files.0 (properties_of c.in-Ok.files.1)) c.collation_of.result c.collation_of.ensures.refused

pub returns-in-Ok-clause-failed : goal.returns-in-Ok-clause-failed
returns-in-Ok-clause-failed g c =
    failed_by_no_file {B = ⊤} table_and_data_roles (c.args.table.now ∷ c.args.properties.now ∷ [])
    (c.read_packed_files.new.table ∷ c.read_packed_files.new.properties ∷ []) tt c.collation_of.result c.in-Ok.ensures.failed
    (no_file c.args.asked (table_with c.in-Ok.files.0 (properties_of c.in-Ok.files.1)) c.collation_of.result c.collation_of.ensures.refused)
