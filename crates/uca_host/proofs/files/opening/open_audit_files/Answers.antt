-- The first three files open or do not, and then the other two.
use Rattle.std.proofs.Common.{◌∷◌, []}
use Rattle.uca_run_parts.specs.declared.faults.Role.TheVariants as roles
use Rattle.uca_host.specs.NamedFiles.{file_for, file_system}
use Rattle.uca_host.proofs.Opened.{fails_after, fails_before, opened_after}
use Rattle.uca_host.proofs.files.opening.open_audit_files.Goals as goal

pub returns-in-Ok-open_two : goal.returns-in-Ok-open_two
returns-in-Ok-open_two g c =
    let files = file_system g.O.Opens.calls g.O.File.Read.remaining g.O.Made.Write.contents in
    opened_after files
    (file_for roles.Base c.args.base.now ∷ file_for roles.Data c.args.data_file.now ∷ file_for roles.Rules c.args.rules.now ∷ [])
    (file_for roles.Tailored c.args.tailored.now ∷ file_for roles.Certificate c.args.certificate.now ∷ [])
    (c.in-Ok.base ∷ c.in-Ok.properties ∷ c.in-Ok.rules ∷ [])
    (c.in-Ok-open_two.tailored ∷ c.in-Ok-open_two.certificate ∷ []) _ _ _ c.in-Ok.ensures c.in-Ok-open_two.ensures

pub returns-in-Err-open_two : goal.returns-in-Err-open_two
returns-in-Err-open_two g c =
    let files = file_system g.O.Opens.calls g.O.File.Read.remaining g.O.Made.Write.contents in
    fails_after files
    (file_for roles.Base c.args.base.now ∷ file_for roles.Data c.args.data_file.now ∷ file_for roles.Rules c.args.rules.now ∷ [])
    (file_for roles.Tailored c.args.tailored.now ∷ file_for roles.Certificate c.args.certificate.now ∷ [])
    (c.in-Ok.base ∷ c.in-Ok.properties ∷ c.in-Ok.rules ∷ [])
    c.in-Err-open_two.role _ _ _ c.in-Ok.ensures c.in-Err-open_two.ensures

pub returns-in-Err : goal.returns-in-Err
returns-in-Err g c =
    let files = file_system g.O.Opens.calls g.O.File.Read.remaining g.O.Made.Write.contents in
    fails_before files
    (file_for roles.Base c.args.base.now ∷ file_for roles.Data c.args.data_file.now ∷ file_for roles.Rules c.args.rules.now ∷ [])
    (file_for roles.Tailored c.args.tailored.now ∷ file_for roles.Certificate c.args.certificate.now ∷ [])
    c.in-Err.role _ _ c.in-Err.ensures
