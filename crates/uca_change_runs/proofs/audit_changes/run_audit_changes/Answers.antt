-- The whole run, from what its six files mean and what is written of them.
use Rattle.std.proofs.Common.{[], ◌∷◌, Ok, Err, refl}
use Rattle.uca_changes.specs.Changes.{Change}
use Rattle.uca_editions.proofs.NotAccepted.{refused_not_accepted}
use Rattle.uca_run_parts.proofs.FilesLemmas.{stays}
use Rattle.uca_run_parts.proofs.ReadFilesLemmas.{both_read, first_rejected, second_rejected}
use Rattle.uca_run_parts.proofs.Verdicts.{audits}
use Rattle.uca_change_runs.specs.AuditRun.{change_audit}
use Rattle.uca_change_runs.specs.ChangeFiles.{editions_files, editions_roles}
use Rattle.uca_change_runs.specs.inside.ReadChanges.{change_listed, editions_of, listed_files, listed_of, listed_roles}
use Rattle.uca_change_runs.proofs.audit_changes.run_audit_changes.Goals as goal

pub returns-in-Err : goal.returns-in-Err
returns-in-Err g c =
    let a = c.args in
    let new = c.read_editions.new in
    let fault = c.in-Err.fault in
    audits {T = Change} change_audit refused_not_accepted
    (a.old.now ∷ a.old_data.now ∷ a.new.now ∷ a.new_data.now ∷ a.changes.now ∷ a.certificate.now ∷ [])
    (new.old ∷ new.old_data ∷ new.new ∷ new.new_data ∷ a.changes.now ∷ a.certificate.now ∷ [])
    a.out.now a.out.now (λ change. change) (Err fault) (Err fault)
    (first_rejected editions_files (λ editions. listed_files) change_listed editions_roles listed_roles
    (a.old.now ∷ a.old_data.now ∷ a.new.now ∷ a.new_data.now ∷ []) (new.old ∷ new.old_data ∷ new.new ∷ new.new_data ∷ [])
    (a.changes.now ∷ a.certificate.now ∷ []) (a.changes.now ∷ a.certificate.now ∷ []) (λ files. editions_of files) (λ change. change)
    (refl, λ old. (refl, λ old_points. (refl, λ new. (refl, λ new_points. tt))))
    fault refl (stays a.changes.now.failed, (stays a.certificate.now.failed, tt)) c.in-Err.ensures)
    (refl, refl) refl

pub returns-in-Err-read_listed : goal.returns-in-Err-read_listed
returns-in-Err-read_listed g c =
    let a = c.args in
    let new = c.read_editions.new in
    let listed = c.read_listed.new in
    let fault = c.in-Err-read_listed.fault in
    audits {T = Change} change_audit refused_not_accepted
    (a.old.now ∷ a.old_data.now ∷ a.new.now ∷ a.new_data.now ∷ a.changes.now ∷ a.certificate.now ∷ [])
    (new.old ∷ new.old_data ∷ new.new ∷ new.new_data ∷ listed.changes ∷ listed.certificate ∷ [])
    a.out.now a.out.now (λ change. change) (Err fault) (Err fault)
    (second_rejected editions_files (λ editions. listed_files) change_listed editions_roles listed_roles
    (a.old.now ∷ a.old_data.now ∷ a.new.now ∷ a.new_data.now ∷ []) (new.old ∷ new.old_data ∷ new.new ∷ new.new_data ∷ [])
    (a.changes.now ∷ a.certificate.now ∷ []) (listed.changes ∷ listed.certificate ∷ []) (λ files. editions_of files) (λ change. change)
    (refl, λ old. (refl, λ old_points. (refl, λ new. (refl, λ new_points. tt))))
    (λ read. listed_of read) c.in-Ok.editions (λ editions. (refl, λ list. (refl, λ certificate. tt))) c.in-Ok.ensures
    fault refl c.in-Err-read_listed.ensures)
    (refl, refl) refl

pub returns-in-Ok-read_listed : goal.returns-in-Ok-read_listed
returns-in-Ok-read_listed g c =
    let a = c.args in
    let new = c.read_editions.new in
    let listed = c.read_listed.new in
    let verdict = c.write_verdict-verdict in
    let change : Change = change_listed (editions_of c.in-Ok.editions) (listed_of c.in-Ok-read_listed.listed) in
    audits change_audit refused_not_accepted
    (a.old.now ∷ a.old_data.now ∷ a.new.now ∷ a.new_data.now ∷ a.changes.now ∷ a.certificate.now ∷ [])
    (new.old ∷ new.old_data ∷ new.new ∷ new.new_data ∷ listed.changes ∷ listed.certificate ∷ [])
    a.out.now verdict.new.out (λ change. change) (Ok change) verdict.result
    (both_read editions_files (λ editions. listed_files) change_listed editions_roles listed_roles
    (a.old.now ∷ a.old_data.now ∷ a.new.now ∷ a.new_data.now ∷ []) (new.old ∷ new.old_data ∷ new.new ∷ new.new_data ∷ [])
    (a.changes.now ∷ a.certificate.now ∷ []) (listed.changes ∷ listed.certificate ∷ []) (λ files. editions_of files) (λ change. change)
    (refl, λ old. (refl, λ old_points. (refl, λ new. (refl, λ new_points. tt))))
    (λ read. listed_of read) c.in-Ok.editions (λ editions. (refl, λ list. (refl, λ certificate. tt))) c.in-Ok.ensures
    c.in-Ok-read_listed.listed change refl c.in-Ok-read_listed.ensures)
    verdict.ensures.runs verdict.ensures.failed
