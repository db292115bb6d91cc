-- Which of the two files is rejected, or what both mean.
use Rattle.std.proofs.Common.{[], ◌∷◌, refl}
use Rattle.std.proofs.lemmas.Result.{err_from_is_err_and}
use Rattle.uca_values.specs.Content.{properties_of}
use Rattle.uca_run_parts.specs.declared.faults.Role.TheVariants as roles
use Rattle.uca_run_parts.specs.Files.{table_with}
use Rattle.uca_run_parts.specs.ReadFiles.{data_file, table_file}
use Rattle.uca_run_parts.proofs.FilesLemmas.{stays}
use Rattle.uca_run_parts.proofs.ReadFilesLemmas.{both_read, first_rejected, second_rejected}
use Rattle.uca_key_runs.proofs.collations.packed_files.read_packed_files.Goals as goal

pub returns-in_err-table : goal.returns-in_err-table
returns-in_err-table g c =
    let p = err_from_is_err_and c.from_residual.result c.from_residual.ensures.1 in
    let unread = c.args.properties.now in
    rw (p.1, p.2) (first_rejected (table_file roles.Table) (λ table. data_file roles.Data) table_with (roles.Table ∷ []) (roles.Data ∷ [])
    (c.args.table.now ∷ []) (c.read_packed_file.new.source ∷ []) (unread ∷ []) (unread ∷ []) (λ table. table) _ (refl, λ table. tt)
    c.in_err-table.field-0.0 refl (stays unread.failed, tt) c.in_err-table.ensures)

pub returns-in-Err : goal.returns-in-Err
returns-in-Err g c =
    (second_rejected (table_file roles.Table) (λ table. data_file roles.Data) table_with (roles.Table ∷ []) (roles.Data ∷ [])
    (c.args.table.now ∷ []) (c.read_packed_file.new.source ∷ []) (c.args.properties.now ∷ []) (c.read_data_file.new.source ∷ [])
    (λ table. table) _ (refl, λ table. tt) properties_of c.in_ok-table.table (λ table. (refl, λ points. tt)) c.in_ok-table.ensures
    c.in-Err.fault refl c.in-Err.ensures)

pub returns-in-Ok : goal.returns-in-Ok
returns-in-Ok g c =
    both_read (table_file roles.Table) (λ table. data_file roles.Data) table_with (roles.Table ∷ []) (roles.Data ∷ [])
    (c.args.table.now ∷ []) (c.read_packed_file.new.source ∷ []) (c.args.properties.now ∷ []) (c.read_data_file.new.source ∷ [])
    (λ table. table) _ (refl, λ table. tt) properties_of c.in_ok-table.table (λ table. (refl, λ points. tt)) c.in_ok-table.ensures
    c.in-Ok.properties _ refl c.in-Ok.ensures
