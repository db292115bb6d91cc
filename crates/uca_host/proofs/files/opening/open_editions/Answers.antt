-- The old files open or do not, and then the new ones.
use Rattle.std.proofs.Common.{◌∷◌, []}
use Rattle.uca_run_parts.specs.declared.faults.Role.TheVariants as roles
use Rattle.uca_host.specs.NamedFiles.{file_for, file_system}
use Rattle.uca_host.proofs.Opened.{fails_after, fails_before, opened_after}
use Rattle.uca_host.proofs.files.opening.open_editions.Goals as goal

pub returns-in-Ok-open_two : goal.returns-in-Ok-open_two
returns-in-Ok-open_two g c =
    let files = file_system g.O.Opens.calls g.O.File.Read.remaining g.O.Made.Write.contents in
    opened_after files
    (file_for roles.Old c.args.names.now.old.now ∷ file_for roles.OldData c.args.names.now.old_data.now ∷ [])
    (file_for roles.New c.args.names.now.new.now ∷ file_for roles.NewData c.args.names.now.new_data.now ∷ [])
    (c.in-Ok.old ∷ c.in-Ok.old_data ∷ [])
    (c.in-Ok-open_two.new ∷ c.in-Ok-open_two.new_data ∷ []) _ _ _ c.in-Ok.ensures c.in-Ok-open_two.ensures

pub returns-in-Err-open_two : goal.returns-in-Err-open_two
returns-in-Err-open_two g c =
    let files = file_system g.O.Opens.calls g.O.File.Read.remaining g.O.Made.Write.contents in
    fails_after files
    (file_for roles.Old c.args.names.now.old.now ∷ file_for roles.OldData c.args.names.now.old_data.now ∷ [])
    (file_for roles.New c.args.names.now.new.now ∷ file_for roles.NewData c.args.names.now.new_data.now ∷ [])
    (c.in-Ok.old ∷ c.in-Ok.old_data ∷ [])
    c.in-Err-open_two.role _ _ _ c.in-Ok.ensures c.in-Err-open_two.ensures

pub returns-in-Err : goal.returns-in-Err
returns-in-Err g c =
    let files = file_system g.O.Opens.calls g.O.File.Read.remaining g.O.Made.Write.contents in
    fails_before files
    (file_for roles.Old c.args.names.now.old.now ∷ file_for roles.OldData c.args.names.now.old_data.now ∷ [])
    (file_for roles.New c.args.names.now.new.now ∷ file_for roles.NewData c.args.names.now.new_data.now ∷ [])
    c.in-Err.role _ _ c.in-Err.ensures
