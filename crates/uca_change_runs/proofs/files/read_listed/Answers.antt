-- Which of the two files is rejected, or what both mean.
use Rattle.std.proofs.Common.{[], ◌∷◌, refl}
use Rattle.uca_run_parts.specs.declared.faults.Role.TheVariants as roles
use Rattle.uca_run_parts.specs.ReadFiles.{certificate_file}
use Rattle.uca_run_parts.proofs.FilesLemmas.{stays}
use Rattle.uca_run_parts.proofs.ReadFilesLemmas.{both_read, first_rejected, second_rejected}
use Rattle.uca_change_runs.specs.inside.ReadChanges.{changes_file, listed_with}
use Rattle.uca_change_runs.proofs.files.read_listed.Goals as goal

pub returns-in-Err : goal.returns-in-Err
returns-in-Err g c =
    let unread = c.args.certificate.now in
    first_rejected changes_file (λ list. certificate_file) listed_with (roles.Changes ∷ []) (roles.Certificate ∷ [])
    (c.args.changes.now ∷ []) (c.read_changes_file.new.source ∷ []) (unread ∷ []) (unread ∷ []) (λ list. list) _ (refl, λ list. tt)
    c.in-Err.fault refl (stays unread.failed, tt) c.in-Err.ensures

pub returns-in-Err-read_certificate_file : goal.returns-in-Err-read_certificate_file
returns-in-Err-read_certificate_file g c =
    second_rejected changes_file (λ list. certificate_file) listed_with (roles.Changes ∷ []) (roles.Certificate ∷ [])
    (c.args.changes.now ∷ []) (c.read_changes_file.new.source ∷ []) (c.args.certificate.now ∷ []) (c.read_certificate_file.new.source ∷ [])
    (λ list. list) _ (refl, λ list. tt) (λ certificate. certificate) c.in-Ok.list (λ list. (refl, λ certificate. tt)) c.in-Ok.ensures
    c.in-Err-read_certificate_file.fault refl c.in-Err-read_certificate_file.ensures

pub returns-in-Ok-read_certificate_file : goal.returns-in-Ok-read_certificate_file
returns-in-Ok-read_certificate_file g c =
    both_read changes_file (λ list. certificate_file) listed_with (roles.Changes ∷ []) (roles.Certificate ∷ [])
    (c.args.changes.now ∷ []) (c.read_changes_file.new.source ∷ []) (c.args.certificate.now ∷ []) (c.read_certificate_file.new.source ∷ [])
    (λ list. list) _ (refl, λ list. tt) (λ certificate. certificate) c.in-Ok.list (λ list. (refl, λ certificate. tt)) c.in-Ok.ensures
    c.in-Ok-read_certificate_file.certificate _ refl c.in-Ok-read_certificate_file.ensures
