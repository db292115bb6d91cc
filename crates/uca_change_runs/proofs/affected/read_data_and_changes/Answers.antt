-- Which of the two files is rejected, or what both mean.
use Rattle.std.proofs.Common.{[], ◌∷◌, refl}
use Rattle.uca_values.specs.Content.{properties_of}
use Rattle.uca_run_parts.specs.declared.faults.Role.TheVariants as roles
use Rattle.uca_run_parts.specs.ReadFiles.{data_file}
use Rattle.uca_run_parts.proofs.FilesLemmas.{stays}
use Rattle.uca_run_parts.proofs.ReadFilesLemmas.{both_read, first_rejected, second_rejected}
use Rattle.uca_change_runs.specs.ChangeFiles.{changes_with}
use Rattle.uca_change_runs.specs.inside.ReadChanges.{changes_file}
use Rattle.uca_change_runs.proofs.affected.read_data_and_changes.Goals as goal

pub returns-in-Err : goal.returns-in-Err
returns-in-Err g c =
    let unread = c.args.changes.now in
    first_rejected (data_file roles.Data) (λ points. changes_file) changes_with (roles.Data ∷ []) (roles.Changes ∷ [])
    (c.args.properties.now ∷ []) (c.read_data_file.new.source ∷ []) (unread ∷ []) (unread ∷ []) properties_of _ (refl, λ points. tt)
    c.in-Err.fault refl (stays unread.failed, tt) c.in-Err.ensures

pub returns-in-Err-read_changes_file : goal.returns-in-Err-read_changes_file
returns-in-Err-read_changes_file g c =
    second_rejected (data_file roles.Data) (λ points. changes_file) changes_with (roles.Data ∷ []) (roles.Changes ∷ [])
    (c.args.properties.now ∷ []) (c.read_data_file.new.source ∷ []) (c.args.changes.now ∷ []) (c.read_changes_file.new.source ∷ [])
    properties_of _ (refl, λ points. tt) (λ list. list) c.in-Ok.properties (λ points. (refl, λ list. tt)) c.in-Ok.ensures
    c.in-Err-read_changes_file.fault refl c.in-Err-read_changes_file.ensures

pub returns-in-Ok-read_changes_file : goal.returns-in-Ok-read_changes_file
returns-in-Ok-read_changes_file g c =
    both_read (data_file roles.Data) (λ points. changes_file) changes_with (roles.Data ∷ []) (roles.Changes ∷ [])
    (c.args.properties.now ∷ []) (c.read_data_file.new.source ∷ []) (c.args.changes.now ∷ []) (c.read_changes_file.new.source ∷ [])
    properties_of _ (refl, λ points. tt) (λ list. list) c.in-Ok.properties (λ points. (refl, λ list. tt)) c.in-Ok.ensures
    c.in-Ok-read_changes_file.list _ refl c.in-Ok-read_changes_file.ensures
