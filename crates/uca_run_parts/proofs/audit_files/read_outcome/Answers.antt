-- Which of the two files is rejected, or what both mean.
use Rattle.std.proofs.Common.{[], ◌∷◌, refl}
use Rattle.uca_run_parts.specs.declared.faults.Role.TheVariants as roles
use Rattle.uca_run_parts.specs.ReadFiles.{certificate_file, outcome_of, table_file}
use Rattle.uca_run_parts.proofs.FilesLemmas.{stays}
use Rattle.uca_run_parts.proofs.ReadFilesLemmas.{both_read, first_rejected, second_rejected}
use Rattle.uca_run_parts.proofs.audit_files.read_outcome.Goals as goal

pub returns-in-Err : goal.returns-in-Err
returns-in-Err g c =
    let unread = c.args.certificate.now in
    (first_rejected (table_file roles.Tailored) (λ table. certificate_file) outcome_of (roles.Tailored ∷ []) (roles.Certificate ∷ [])
    (c.args.tailored.now ∷ []) (c.read_table_file.new.source ∷ []) (unread ∷ []) (unread ∷ []) (λ table. table) _ (refl, λ table. tt)
    c.in-Err.fault refl (stays unread.failed, tt) c.in-Err.ensures)

pub returns-in-Err-read_certificate_file : goal.returns-in-Err-read_certificate_file
returns-in-Err-read_certificate_file g c =
    (second_rejected (table_file roles.Tailored) (λ table. certificate_file) outcome_of (roles.Tailored ∷ []) (roles.Certificate ∷ [])
    (c.args.tailored.now ∷ []) (c.read_table_file.new.source ∷ []) (c.args.certificate.now ∷ []) (c.read_certificate_file.new.source ∷ [])
    (λ table. table) _ (refl, λ table. tt) (λ certificate. certificate) c.in-Ok.tailored (λ table. (refl, λ certificate. tt)) c.in-Ok.ensures
    c.in-Err-read_certificate_file.fault refl c.in-Err-read_certificate_file.ensures)

pub returns-in-Ok-read_certificate_file : goal.returns-in-Ok-read_certificate_file
returns-in-Ok-read_certificate_file g c =
    both_read (table_file roles.Tailored) (λ table. certificate_file) outcome_of (roles.Tailored ∷ []) (roles.Certificate ∷ [])
    (c.args.tailored.now ∷ []) (c.read_table_file.new.source ∷ []) (c.args.certificate.now ∷ []) (c.read_certificate_file.new.source ∷ [])
    (λ table. table) _ (refl, λ table. tt) (λ certificate. certificate) c.in-Ok.tailored (λ table. (refl, λ certificate. tt)) c.in-Ok.ensures
    c.in-Ok-read_certificate_file.certificate _ refl c.in-Ok-read_certificate_file.ensures
