-- Which of the two files is rejected, or what both mean.
use Rattle.std.proofs.Common.{[], ◌∷◌, refl}
use Rattle.uca_values.specs.Content.{properties_of}
use Rattle.uca_run_parts.specs.declared.faults.Role.TheVariants as roles
use Rattle.uca_run_parts.proofs.FilesLemmas.{stays}
use Rattle.uca_run_parts.proofs.ReadFilesLemmas.{both_read, first_rejected, second_rejected}
use Rattle.uca_fingerprint_runs.specs.SummedFiles.{summed_data, summed_table, summed_with}
use Rattle.uca_fingerprint_runs.proofs.summed_files.read_summed_files.Goals as goal

pub returns-in-Err : goal.returns-in-Err
returns-in-Err g c =
    let unread = c.args.properties.now in
    (first_rejected summed_table (λ table. summed_data) summed_with (roles.Table ∷ []) (roles.Data ∷ [])
    (c.args.table.now ∷ []) (c.read_table.new.source ∷ []) (unread ∷ []) (unread ∷ []) (λ read. (read.0, read.1)) _ (refl, λ table. tt)
    c.in-Err.fault refl (stays unread.failed, tt) c.in-Err.ensures)

pub returns-in-Err-read_data : goal.returns-in-Err-read_data
returns-in-Err-read_data g c =
    (second_rejected summed_table (λ table. summed_data) summed_with (roles.Table ∷ []) (roles.Data ∷ [])
    (c.args.table.now ∷ []) (c.read_table.new.source ∷ []) (c.args.properties.now ∷ []) (c.read_data.new.source ∷ [])
    (λ read. (read.0, read.1)) _ (refl, λ table. tt) (λ read. (properties_of read.0, read.1)) c.in-Ok.table (λ table. (refl, λ points. tt)) c.in-Ok.ensures
    c.in-Err-read_data.fault refl c.in-Err-read_data.ensures)

pub returns-in-Ok-read_data : goal.returns-in-Ok-read_data
returns-in-Ok-read_data g c =
    both_read summed_table (λ table. summed_data) summed_with (roles.Table ∷ []) (roles.Data ∷ [])
    (c.args.table.now ∷ []) (c.read_table.new.source ∷ []) (c.args.properties.now ∷ []) (c.read_data.new.source ∷ [])
    (λ read. (read.0, read.1)) _ (refl, λ table. tt) (λ read. (properties_of read.0, read.1)) c.in-Ok.table (λ table. (refl, λ points. tt)) c.in-Ok.ensures
    c.in-Ok-read_data.properties _ refl c.in-Ok-read_data.ensures
