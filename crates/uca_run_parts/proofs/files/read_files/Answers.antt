-- Which of the two files is rejected, or what both mean.
use Rattle.std.proofs.Common.{[], ◌∷◌, refl}
use Rattle.uca_values.specs.Content.{properties_of}
use Rattle.uca_run_parts.specs.declared.faults.Role.TheVariants as roles
use Rattle.uca_run_parts.specs.Files.{table_with}
use Rattle.uca_run_parts.specs.ReadFiles.{data_file, table_file}
use Rattle.uca_run_parts.proofs.FilesLemmas.{stays}
use Rattle.uca_run_parts.proofs.ReadFilesLemmas.{both_read, first_rejected, second_rejected}
use Rattle.uca_run_parts.proofs.files.read_files.Goals as goal

pub returns-in-Err : goal.returns-in-Err
returns-in-Err g c =
    let unread = c.args.properties.now in
    (first_rejected (table_file roles.Table) (λ table. data_file roles.Data) table_with (roles.Table ∷ []) (roles.Data ∷ [])
    (c.args.table.now ∷ []) (c.read_table_file.new.source ∷ []) (unread ∷ []) (unread ∷ []) (λ table. table) _ (refl, λ table. tt)
    c.in-Err.fault refl (stays unread.failed, tt) c.in-Err.ensures)

pub returns-in-Err-read_data_file : goal.returns-in-Err-read_data_file
returns-in-Err-read_data_file g c =
    (second_rejected (table_file roles.Table) (λ table. data_file roles.Data) table_with (roles.Table ∷ []) (roles.Data ∷ [])
    (c.args.table.now ∷ []) (c.read_table_file.new.source ∷ []) (c.args.properties.now ∷ []) (c.read_data_file.new.source ∷ [])
    (λ table. table) _ (refl, λ table. tt) properties_of c.in-Ok.table (λ table. (refl, λ points. tt)) c.in-Ok.ensures
    c.in-Err-read_data_file.fault refl c.in-Err-read_data_file.ensures)

pub returns-in-Ok-read_data_file : goal.returns-in-Ok-read_data_file
returns-in-Ok-read_data_file g c =
    both_read (table_file roles.Table) (λ table. data_file roles.Data) table_with (roles.Table ∷ []) (roles.Data ∷ [])
    (c.args.table.now ∷ []) (c.read_table_file.new.source ∷ []) (c.args.properties.now ∷ []) (c.read_data_file.new.source ∷ [])
    (λ table. table) _ (refl, λ table. tt) properties_of c.in-Ok.table (λ table. (refl, λ points. tt)) c.in-Ok.ensures
    c.in-Ok-read_data_file.properties _ refl c.in-Ok-read_data_file.ensures
