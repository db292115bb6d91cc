-- The first four files open or do not, and then the other two.
use Rattle.std.proofs.Common.{◌∷◌, []}
use Rattle.uca_run_parts.specs.declared.faults.Role.TheVariants as roles
use Rattle.uca_host.specs.NamedFiles.{edition_files, file_for, file_system}
use Rattle.uca_host.proofs.Opened.{fails_after, fails_before, opened_after}
use Rattle.uca_host.proofs.files.opening.open_change_files.Goals as goal

pub returns-in-Ok-open_two : goal.returns-in-Ok-open_two
returns-in-Ok-open_two g c =
    let files = file_system g.O.Opens.calls g.O.File.Read.remaining g.O.Made.Write.contents in
    opened_after files
    (edition_files c.args.names.now)
    (file_for roles.Changes c.args.changes.now ∷ file_for roles.Certificate c.args.certificate.now ∷ [])
    (c.in-Ok.editions.old ∷ c.in-Ok.editions.old_data ∷ c.in-Ok.editions.new ∷ c.in-Ok.editions.new_data ∷ [])
    (c.in-Ok-open_two.changes ∷ c.in-Ok-open_two.certificate ∷ []) _ _ _ c.in-Ok.ensures c.in-Ok-open_two.ensures

pub returns-in-Err-open_two : goal.returns-in-Err-open_two
returns-in-Err-open_two g c =
    let files = file_system g.O.Opens.calls g.O.File.Read.remaining g.O.Made.Write.contents in
    fails_after files
    (edition_files c.args.names.now)
    (file_for roles.Changes c.args.changes.now ∷ file_for roles.Certificate c.args.certificate.now ∷ [])
    (c.in-Ok.editions.old ∷ c.in-Ok.editions.old_data ∷ c.in-Ok.editions.new ∷ c.in-Ok.editions.new_data ∷ [])
    c.in-Err-open_two.role _ _ _ c.in-Ok.ensures c.in-Err-open_two.ensures

pub returns-in-Err : goal.returns-in-Err
returns-in-Err g c =
    let files = file_system g.O.Opens.calls g.O.File.Read.remaining g.O.Made.Write.contents in
    fails_before files
    (edition_files c.args.names.now)
    (file_for roles.Changes c.args.changes.now ∷ file_for roles.Certificate c.args.certificate.now ∷ [])
    c.in-Err.role _ _ c.in-Err.ensures
