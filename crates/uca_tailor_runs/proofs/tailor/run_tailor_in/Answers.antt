-- The whole run, from what its three files mean and what the planner returns for them.
use Rattle.std.specs.Prelude.{⊤}
use Rattle.std.proofs.Common.{◌≡◌, [], ◌∷◌, Ok, Err, refl, subst, sym}
use Rattle.std.proofs.lemmas.Result.{err_from_is_err_and}
use Rattle.uca_values.specs.Content.{TableContent, properties_of}
use Rattle.uca_certificates.specs.Certificates.{CertificateContent}
use Rattle.uca_plans.specs.Tailors.{IsPlanOf}
use Rattle.uca_tailor_runs.specs.TailorRun.{RunsTailor}
use Rattle.uca_run_parts.specs.Files.{tailor_content, tailor_files, tailor_roles}
use Rattle.uca_run_parts.specs.PlanFaults.{refused_plan}
use Rattle.uca_run_parts.proofs.FilesLemmas.{ended_by_files, failed_by_files, failed_by_no_file, runs_over_all}
use Rattle.uca_tailor_runs.proofs.PlanAnswers.{no_file_of_plan, one_plan, refusal_answered, plan_stops}
use Rattle.uca_tailor_runs.proofs.tailor.run_tailor_in.Goals as goal

pub returns-in_err-files : goal.returns-in_err-files
returns-in_err-files g c =
    let p = err_from_is_err_and c.from_residual.result c.from_residual.ensures.1 in
    let fault = c.in_err-files.field-0.0 in
    let olds = c.args.base.now ∷ c.args.properties.now ∷ c.args.rules.now ∷ [] in
    let news = c.read_tailor_files.new.base ∷ c.read_tailor_files.new.properties ∷ c.read_tailor_files.new.rules ∷ [] in
    rw (p.1, p.2) (record {
      runs = ended_by_files (TableContent × CertificateContent) ⊤ tailor_files olds news (RunsTailor (Err fault)) fault c.in_err-files.ensures.read;
      only = λ content mean table certificate is. c.in_err-files.ensures.only content mean;
      failed = failed_by_files (TableContent × CertificateContent) ⊤ tailor_roles olds news fault c.in_err-files.ensures.failed;
    })

pub returns-in-Err : goal.returns-in-Err
returns-in-Err g c =
    let files = c.in_ok-files.files in
    let read = tailor_content files.base (properties_of files.properties) files.rules in
    let fault = c.in-Err.fault in
    let no_file = no_file_of_plan (TableContent × CertificateContent) fault in
    let olds = c.args.base.now ∷ c.args.properties.now ∷ c.args.rules.now ∷ [] in
    let news = c.read_tailor_files.new.base ∷ c.read_tailor_files.new.properties ∷ c.read_tailor_files.new.rules ∷ [] in
    rw c.into.ensures (record {
      runs = runs_over_all {A = TableContent × CertificateContent} {B = ⊤} tailor_files olds news (λ content. read ≡ content) (RunsTailor (Err (refused_plan fault))) tt
          (Err (refused_plan fault)) no_file
          (λ content same. subst (RunsTailor (Err (refused_plan fault))) same
          (refusal_answered files.base (properties_of files.properties) files.rules fault c.in-Err.ensures.refused))
          c.in_ok-files.ensures.read;
      only = λ content mean table certificate is.
          let same = sym (c.in_ok-files.ensures.only content mean) in
          plan_stops files.base (properties_of files.properties) files.rules table certificate fault
          (subst (λ d. IsPlanOf d.base d.properties d.relations table certificate) same is) c.in-Err.ensures.refused;
      failed = failed_by_no_file {A = TableContent × CertificateContent} {B = ⊤} tailor_roles olds news tt (Err (refused_plan fault)) c.in_ok-files.ensures.failed no_file;
    })

pub returns-in-Ok : goal.returns-in-Ok
returns-in-Ok g c =
    let files = c.in_ok-files.files in
    let read = tailor_content files.base (properties_of files.properties) files.rules in
    let answer = c.in-Ok.made in
    let olds = c.args.base.now ∷ c.args.properties.now ∷ c.args.rules.now ∷ [] in
    let news = c.read_tailor_files.new.base ∷ c.read_tailor_files.new.properties ∷ c.read_tailor_files.new.rules ∷ [] in
    record {
      runs = runs_over_all {A = TableContent × CertificateContent} {B = ⊤} tailor_files olds news (λ content. read ≡ content) (RunsTailor (Ok answer)) tt (Ok answer) refl
          (λ content same. subst (RunsTailor (Ok answer)) same
          (record { plan = c.in-Ok.ensures.planned; accepted = c.in-Ok.ensures.accepted; faithful = c.in-Ok.ensures.faithful }))
          c.in_ok-files.ensures.read;
      only = λ content mean table certificate is.
          let same = sym (c.in_ok-files.ensures.only content mean) in
          one_plan files.base (properties_of files.properties) files.rules answer.0 table answer.1 certificate c.in-Ok.ensures.planned
          (subst (λ d. IsPlanOf d.base d.properties d.relations table certificate) same is);
      failed = failed_by_no_file {A = TableContent × CertificateContent} {B = ⊤} tailor_roles olds news tt (Ok answer) c.in_ok-files.ensures.failed refl;
    }
