-- Which of the five files is rejected, or what all of them mean.
use Rattle.std.proofs.Common.{List, [], ◌∷◌, ap, refl}
use Rattle.uca_values.specs.Content.{properties_of}
use Rattle.uca_tailorings.specs.Tailorings.{Tailoring}
use Rattle.uca_tailorings.specs.Inputs.{tailoring_of}
use Rattle.uca_run_parts.specs.declared.faults.Role.{Role}
use Rattle.uca_run_parts.specs.declared.faults.Role.TheVariants as roles
use Rattle.uca_run_parts.specs.Files.{TailorContent, data_and_rules_roles, rules_over, tailor_content}
use Rattle.uca_run_parts.specs.ReadFiles.{OutcomeContent, outcome_files, outcome_of, outcome_roles}
use Rattle.uca_run_parts.proofs.FilesLemmas.{stays}
use Rattle.uca_run_parts.proofs.ReadFilesLemmas.{both_read, first_rejected, second_rejected}
use Rattle.uca_run_parts.proofs.audit_files.read_audit_files.Goals as goal

-- the roles of the first three files
abbrev given_roles : List Role
given_roles = roles.Base ∷ data_and_rules_roles

-- the tailoring that all files mean
abbrev tailoring_by : TailorContent → OutcomeContent → Tailoring
tailoring_by given outcome = tailoring_of given.base given.properties given.relations outcome.tailored outcome.certificate

pub returns-in-Err : goal.returns-in-Err
returns-in-Err g c =
    let outcome = c.args.tailored.now ∷ c.args.certificate.now ∷ [] in
    (first_rejected (rules_over roles.Base) (λ given. outcome_files) tailoring_by given_roles outcome_roles
    (c.args.base.now ∷ c.args.properties.now ∷ c.args.rules.now ∷ []) (c.read_files_over.new.base ∷ c.read_files_over.new.properties ∷ c.read_files_over.new.rules ∷ []) outcome outcome
    (λ files. tailor_content files.base (properties_of files.properties) files.rules) _ (refl, λ table. (refl, λ points. (refl, λ rules. tt)))
    c.in-Err.fault refl (stays c.args.tailored.now.failed, (stays c.args.certificate.now.failed, tt)) c.in-Err.ensures)

pub returns-in-Err-read_outcome : goal.returns-in-Err-read_outcome
returns-in-Err-read_outcome g c =
    second_rejected (rules_over roles.Base) (λ given. outcome_files) tailoring_by given_roles outcome_roles
    (c.args.base.now ∷ c.args.properties.now ∷ c.args.rules.now ∷ []) (c.read_files_over.new.base ∷ c.read_files_over.new.properties ∷ c.read_files_over.new.rules ∷ [])
    (c.args.tailored.now ∷ c.args.certificate.now ∷ []) (c.read_outcome.new.tailored ∷ c.read_outcome.new.certificate ∷ [])
    (λ files. tailor_content files.base (properties_of files.properties) files.rules) _ (refl, λ table. (refl, λ points. (refl, λ rules. tt)))
    (λ files. outcome_of files.tailored files.certificate) c.in-Ok.given (λ given. (refl, λ table. (refl, λ certificate. tt))) c.in-Ok.ensures
    c.in-Err-read_outcome.fault refl c.in-Err-read_outcome.ensures

pub returns-in-Ok-read_outcome : goal.returns-in-Ok-read_outcome
returns-in-Ok-read_outcome g c =
    both_read (rules_over roles.Base) (λ given. outcome_files) tailoring_by given_roles outcome_roles
    (c.args.base.now ∷ c.args.properties.now ∷ c.args.rules.now ∷ []) (c.read_files_over.new.base ∷ c.read_files_over.new.properties ∷ c.read_files_over.new.rules ∷ [])
    (c.args.tailored.now ∷ c.args.certificate.now ∷ []) (c.read_outcome.new.tailored ∷ c.read_outcome.new.certificate ∷ [])
    (λ files. tailor_content files.base (properties_of files.properties) files.rules) _ (refl, λ table. (refl, λ points. (refl, λ rules. tt)))
    (λ files. outcome_of files.tailored files.certificate) c.in-Ok.given (λ given. (refl, λ table. (refl, λ certificate. tt))) c.in-Ok.ensures
    c.in-Ok-read_outcome.outcome c.files_of.result
    (ap (λ files. tailoring_of files.base (properties_of files.properties) files.rules files.tailored files.certificate) c.files_of.ensures)
    c.in-Ok-read_outcome.ensures
