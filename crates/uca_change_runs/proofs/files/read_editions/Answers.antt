-- Which of the four files is rejected, or what all of them mean.
use Rattle.std.proofs.Common.{List, [], ◌∷◌, refl}
use Rattle.uca_run_parts.specs.declared.faults.Role.{Role}
use Rattle.uca_run_parts.specs.declared.faults.Role.TheVariants as roles
use Rattle.uca_run_parts.proofs.FilesLemmas.{stays}
use Rattle.uca_run_parts.proofs.ReadFilesLemmas.{both_read, first_rejected, second_rejected}
use Rattle.uca_change_runs.specs.ChangeFiles.{editions_with}
use Rattle.uca_change_runs.specs.inside.ReadChanges.{edition_files, edition_of}
use Rattle.uca_change_runs.proofs.files.read_editions.Goals as goal

abbrev old_roles : List Role
old_roles = roles.Old ∷ roles.OldData ∷ []

abbrev new_roles : List Role
new_roles = roles.New ∷ roles.NewData ∷ []

pub returns-in-Err : goal.returns-in-Err
returns-in-Err g c =
    let new = c.args.new.now in
    let new_data = c.args.new_data.now in
    first_rejected (edition_files roles.Old roles.OldData) (λ old. edition_files roles.New roles.NewData) editions_with old_roles new_roles
    (c.args.old.now ∷ c.args.old_data.now ∷ []) (c.read_edition.new.table ∷ c.read_edition.new.properties ∷ []) (new ∷ new_data ∷ []) (new ∷ new_data ∷ [])
    (λ edition. edition_of edition) _ (refl, λ table. (refl, λ points. tt))
    c.in-Err.fault refl (stays new.failed, (stays new_data.failed, tt)) c.in-Err.ensures

pub returns-in-Err-read_edition : goal.returns-in-Err-read_edition
returns-in-Err-read_edition g c =
    second_rejected (edition_files roles.Old roles.OldData) (λ old. edition_files roles.New roles.NewData) editions_with old_roles new_roles
    (c.args.old.now ∷ c.args.old_data.now ∷ []) (c.read_edition.new.table ∷ c.read_edition.new.properties ∷ [])
    (c.args.new.now ∷ c.args.new_data.now ∷ []) (c.read_edition-in-Ok.new.table ∷ c.read_edition-in-Ok.new.properties ∷ [])
    (λ edition. edition_of edition) _ (refl, λ table. (refl, λ points. tt))
    (λ edition. edition_of edition) c.in-Ok.old (λ old. (refl, λ table. (refl, λ points. tt))) c.in-Ok.ensures
    c.in-Err-read_edition.fault refl c.in-Err-read_edition.ensures

pub returns-in-Ok-read_edition : goal.returns-in-Ok-read_edition
returns-in-Ok-read_edition g c =
    both_read (edition_files roles.Old roles.OldData) (λ old. edition_files roles.New roles.NewData) editions_with old_roles new_roles
    (c.args.old.now ∷ c.args.old_data.now ∷ []) (c.read_edition.new.table ∷ c.read_edition.new.properties ∷ [])
    (c.args.new.now ∷ c.args.new_data.now ∷ []) (c.read_edition-in-Ok.new.table ∷ c.read_edition-in-Ok.new.properties ∷ [])
    (λ edition. edition_of edition) _ (refl, λ table. (refl, λ points. tt))
    (λ edition. edition_of edition) c.in-Ok.old (λ old. (refl, λ table. (refl, λ points. tt))) c.in-Ok.ensures
    c.in-Ok-read_edition.new _ refl c.in-Ok-read_edition.ensures
