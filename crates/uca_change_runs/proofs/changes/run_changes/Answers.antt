-- The whole run, from what its four files mean and what is found between them.
use Rattle.std.proofs.Common.{[], ◌∷◌, Ok, Err, refl}
use Rattle.uca_change_runs.specs.inside.ReadChanges.{editions_of}
use Rattle.uca_change_runs.proofs.EditionsRead.{finds_changes}
use Rattle.uca_change_runs.proofs.changes.run_changes.Goals as goal

pub returns-in-Ok : goal.returns-in-Ok
returns-in-Ok g c =
    let new = c.read_editions.new in
    finds_changes (c.args.old.now ∷ c.args.old_data.now ∷ c.args.new.now ∷ c.args.new_data.now ∷ []) (new.old ∷ new.old_data ∷ new.new ∷ new.new_data ∷ [])
    (λ files. editions_of files) (Ok c.in-Ok.files) c.find_between-found.result c.in-Ok.ensures c.find_between-found.ensures

pub returns-in-Err : goal.returns-in-Err
returns-in-Err g c =
    let new = c.read_editions.new in
    finds_changes (c.args.old.now ∷ c.args.old_data.now ∷ c.args.new.now ∷ c.args.new_data.now ∷ []) (new.old ∷ new.old_data ∷ new.new ∷ new.new_data ∷ [])
    (λ files. editions_of files) (Err c.in-Err.fault) (Err c.in-Err.fault) c.in-Err.ensures refl
