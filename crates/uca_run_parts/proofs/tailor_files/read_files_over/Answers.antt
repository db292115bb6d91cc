-- Which of the three files is rejected, or what all of them mean.
use Rattle.std.proofs.Common.{◌≡◌, ◌⊎◌, [], ◌∷◌, true, refl, subst, sym, ⊎_elim}
use Rattle.uca_values.specs.Content.{properties_of}
use Rattle.uca_run_parts.specs.declared.faults.Role.{Role}
use Rattle.uca_run_parts.specs.declared.faults.Role.TheVariants as roles
use Rattle.uca_run_parts.specs.Files.{data_and_rules, data_and_rules_roles, data_with}
use Rattle.uca_run_parts.specs.ReadFiles.{table_file, tailor_by}
use Rattle.uca_run_parts.proofs.FilesLemmas.{stays}
use Rattle.uca_run_parts.proofs.ReadFilesLemmas.{are_apart, both_read, first_rejected, second_rejected}
use Rattle.uca_run_parts.proofs.tailor_files.read_files_over.Goals as goal

-- the role of the table is none of the others
apart_before : (role : Role) → (role ≡ roles.Table) ⊎ (role ≡ roles.Base) → are_apart (role ∷ []) data_and_rules_roles ≡ true
apart_before role either = ⊎_elim (λ is. subst apart (sym is) refl) (λ is. subst apart (sym is) refl) either
  where
    apart : Role → Type 0
    apart r = are_apart (r ∷ []) data_and_rules_roles ≡ true

-- and none of them is its role
apart_after : (role : Role) → (role ≡ roles.Table) ⊎ (role ≡ roles.Base) → are_apart data_and_rules_roles (role ∷ []) ≡ true
apart_after role either = ⊎_elim (λ is. subst apart (sym is) refl) (λ is. subst apart (sym is) refl) either
  where
    apart : Role → Type 0
    apart r = are_apart data_and_rules_roles (r ∷ []) ≡ true

pub returns-in-Err : goal.returns-in-Err
returns-in-Err g c =
    let unread = c.args.properties.now ∷ c.args.rules.now ∷ [] in
    (first_rejected (table_file c.args.role) (λ table. data_and_rules) tailor_by (c.args.role ∷ []) data_and_rules_roles
    (c.args.base.now ∷ []) (c.read_table_file.new.source ∷ []) unread unread (λ table. table) _ (refl, λ table. tt)
    c.in-Err.fault (apart_before c.args.role c.requires) (stays c.args.properties.now.failed, (stays c.args.rules.now.failed, tt)) c.in-Err.ensures)

pub returns-in-Err-read_data_and_rules : goal.returns-in-Err-read_data_and_rules
returns-in-Err-read_data_and_rules g c =
    (second_rejected (table_file c.args.role) (λ table. data_and_rules) tailor_by (c.args.role ∷ []) data_and_rules_roles
    (c.args.base.now ∷ []) (c.read_table_file.new.source ∷ []) (c.args.properties.now ∷ c.args.rules.now ∷ [])
    (c.read_data_and_rules.new.properties ∷ c.read_data_and_rules.new.rules ∷ []) (λ table. table) _ (refl, λ table. tt)
    (λ files. data_with (properties_of files.properties) files.rules) c.in-Ok.base
    (λ table. (refl, λ points. (refl, λ rules. tt))) c.in-Ok.ensures c.in-Err-read_data_and_rules.fault (apart_after c.args.role c.requires) c.in-Err-read_data_and_rules.ensures)

pub returns-in-Ok-read_data_and_rules : goal.returns-in-Ok-read_data_and_rules
returns-in-Ok-read_data_and_rules g c =
    both_read (table_file c.args.role) (λ table. data_and_rules) tailor_by (c.args.role ∷ []) data_and_rules_roles
    (c.args.base.now ∷ []) (c.read_table_file.new.source ∷ []) (c.args.properties.now ∷ c.args.rules.now ∷ [])
    (c.read_data_and_rules.new.properties ∷ c.read_data_and_rules.new.rules ∷ []) (λ table. table) _ (refl, λ table. tt)
    (λ files. data_with (properties_of files.properties) files.rules) c.in-Ok.base
    (λ table. (refl, λ points. (refl, λ rules. tt))) c.in-Ok.ensures c.in-Ok-read_data_and_rules.given _ refl c.in-Ok-read_data_and_rules.ensures
