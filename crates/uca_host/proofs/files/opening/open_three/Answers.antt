-- The first two files open or do not, and then the third.
use Rattle.std.proofs.Common.{◌∷◌, []}
use Rattle.uca_host.specs.NamedFiles.{file_for, file_system}
use Rattle.uca_host.proofs.Opened.{fails_after, fails_before, opened_after}
use Rattle.uca_host.proofs.files.opening.open_three.Goals as goal

pub returns-in-Ok-open_one : goal.returns-in-Ok-open_one
returns-in-Ok-open_one g c =
    let files = file_system g.O.Opens.calls g.O.File.Read.remaining g.O.Made.Write.contents in
    opened_after files
    (file_for c.args.first c.args.first_name.now ∷ file_for c.args.second c.args.second_name.now ∷ [])
    (file_for c.args.third c.args.third_name.now ∷ [])
    (c.in-Ok.one ∷ c.in-Ok.other ∷ [])
    (c.in-Ok-open_one.last ∷ []) _ _ _ c.in-Ok.ensures c.in-Ok-open_one.ensures

pub returns-in-Err-open_one : goal.returns-in-Err-open_one
returns-in-Err-open_one g c =
    let files = file_system g.O.Opens.calls g.O.File.Read.remaining g.O.Made.Write.contents in
    fails_after files
    (file_for c.args.first c.args.first_name.now ∷ file_for c.args.second c.args.second_name.now ∷ [])
    (file_for c.args.third c.args.third_name.now ∷ [])
    (c.in-Ok.one ∷ c.in-Ok.other ∷ [])
    c.in-Err-open_one.role _ _ _ c.in-Ok.ensures c.in-Err-open_one.ensures

pub returns-in-Err : goal.returns-in-Err
returns-in-Err g c =
    let files = file_system g.O.Opens.calls g.O.File.Read.remaining g.O.Made.Write.contents in
    fails_before files
    (file_for c.args.first c.args.first_name.now ∷ file_for c.args.second c.args.second_name.now ∷ [])
    (file_for c.args.third c.args.third_name.now ∷ [])
    c.in-Err.role _ _ c.in-Err.ensures
