-- The whole run, from what its two files mean and the verdict that is written.
use Rattle.std.specs.Prelude.{⊤}
use Rattle.std.proofs.Common.{◌≡◌, Bool, [], ◌∷◌, Err, refl, subst}
use Rattle.uca_values.specs.Content.{properties_of}
use Rattle.uca_run_parts.specs.CheckRun.{RunsCheck}
use Rattle.uca_run_parts.specs.Files.{table_and_data, table_and_data_roles, table_with}
use Rattle.uca_run_parts.proofs.FilesLemmas.{ended_by_files, failed_by_files, failed_by_no_file, runs_over_all}
use Rattle.uca_run_parts.proofs.Running.{as_before, file_before, no_write_before}
use Rattle.uca_run_parts.proofs.check.run_check.Goals as goal

pub returns-in-Err : goal.returns-in-Err
returns-in-Err g c =
    let fault = c.in-Err.fault in
    let olds = c.args.table.now ∷ c.args.properties.now ∷ [] in
    let news = c.read_files.new.table ∷ c.read_files.new.properties ∷ [] in
    record {
      runs = ended_by_files Bool ⊤ table_and_data olds news (RunsCheck c.args.out.now c.args.out.now (Err fault)) fault c.in-Err.ensures.read;
      nothing_written = λ before. refl;
      failed = failed_by_files Bool ⊤ table_and_data_roles olds news fault c.in-Err.ensures.failed;
      out_failed = as_before c.args.out.now.failed _ (no_write_before Bool ⊤ fault (file_before ⊤ ⊤ fault c.in-Err.ensures.of_files));
    }

pub returns-in-Ok : goal.returns-in-Ok
returns-in-Ok g c =
    let files = c.in-Ok.files in
    let read = table_with files.table (properties_of files.properties) in
    let olds = c.args.table.now ∷ c.args.properties.now ∷ [] in
    let news = c.read_files.new.table ∷ c.read_files.new.properties ∷ [] in
    record {
      runs = runs_over_all {B = ⊤} table_and_data olds news (λ content. read ≡ content)
          (RunsCheck c.args.out.now c.write_verdict-verdict.new.out c.write_verdict-verdict.result) tt c.write_verdict-verdict.result c.write_verdict-verdict.ensures.no_file
          (λ content same. subst (RunsCheck c.args.out.now c.write_verdict-verdict.new.out c.write_verdict-verdict.result) same c.write_verdict-verdict.ensures.verdict)
          c.in-Ok.ensures.read;
      nothing_written = λ before. let never : ⊥ = cc in absurd never;
      failed = failed_by_no_file {B = ⊤} table_and_data_roles olds news tt c.write_verdict-verdict.result c.in-Ok.ensures.failed c.write_verdict-verdict.ensures.no_file;
      out_failed = c.write_verdict-verdict.ensures.failed;
    }
