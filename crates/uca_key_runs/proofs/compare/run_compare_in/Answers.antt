-- The whole run, from what its two files mean and what is written of its two texts.
use Rattle.std.specs.Prelude.{⊤}
use Rattle.std.proofs.Common.{[], ◌∷◌, Err, refl, subst}
use Rattle.uca_match.specs.NumberedKeys.{rows_at}
use Rattle.uca_match.specs.OwnedCollations.{owned_collation}
use Rattle.uca_elements.specs.Collations.{collation_of}
use Rattle.uca_run_parts.specs.Files.{table_and_data, table_and_data_roles}
use Rattle.uca_key_runs.specs.Keys.{IsCollation}
use Rattle.uca_key_runs.specs.inside.Collations.{IsNoCollation}
use Rattle.uca_key_runs.specs.CompareRun.{RunsCompare, WritesCompared, WritesComparison}
use Rattle.uca_key_runs.proofs.Comparing.{run_compares}
use Rattle.uca_run_parts.proofs.FilesLemmas.{failed_by_files, failed_by_no_file, over_weaker, runs_over_all, same_fault}
use Rattle.uca_run_parts.proofs.Running.{as_before, no_write_before}
use Rattle.uca_key_runs.proofs.Keyings.{same_keying}
use Rattle.uca_key_runs.proofs.Rows.{no_collation}
use Rattle.uca_key_runs.proofs.compare.run_compare_in.Goals as goal

pub returns-in-Err : goal.returns-in-Err
returns-in-Err g c =
    let fault = c.in-Err.fault in
    let before = c.in-Err.ensures.before_input in
    let olds = c.args.table.now ∷ c.args.properties.now ∷ [] in
    let news = c.read_collation.new.table ∷ c.read_collation.new.properties ∷ [] in
    record {
      runs = over_weaker {A = ⊤} {B = ⊤} table_and_data olds news (λ content. IsNoCollation c.args.asked content fault) (RunsCompare {A = ⊤} c.args.asked c.args.left.now c.args.right.now c.args.out.now c.args.out.now (Err fault)) (Err fault) (Err fault)
          (λ role. same_fault ⊤ ⊤ role fault)
          (λ content is. no_collation c.args.asked content fault (λ f. WritesCompared {A = ⊤} c.args.asked c.args.left.now c.args.right.now c.args.out.now c.args.out.now (Err f) content) refl is) c.in-Err.ensures.read;
      nothing_written = λ before. refl;
      failed = failed_by_files ⊤ ⊤ table_and_data_roles olds news fault c.in-Err.ensures.failed;
      out_failed = as_before c.args.out.now.failed _ (no_write_before ⊤ ⊤ fault before);
    }

pub returns-in-Ok : goal.returns-in-Ok
returns-in-Ok g c =
    let read = c.in-Ok.read in
    let olds = c.args.table.now ∷ c.args.properties.now ∷ [] in
    let news = c.read_collation.new.table ∷ c.read_collation.new.properties ∷ [] in
    record {
      runs = runs_over_all {B = ⊤} table_and_data olds news
          (λ content. IsCollation c.args.asked (owned_collation read.collation) read.settings content) _ tt c.compare_words-end.result c.compare_words-end.ensures.of_texts
          (λ content is. run_compares c.args.asked c.args.left.now c.args.right.now c.args.out.now c.compare_words-end.new.out content c.compare_words-end.result is.2
          (subst (λ d. WritesComparison d c.args.left.now c.args.right.now c.args.out.now.contents c.compare_words-end.new.out.contents c.compare_words-end.result)
          (same_keying c.args.asked (collation_of rows_at c.collator-collator.result) (owned_collation read.collation) read.settings content c.collator-collator.ensures is)
          c.compare_words-end.ensures.writes))
          c.in-Ok.ensures.read;
      nothing_written = c.compare_words-end.ensures.nothing_written;
      failed = failed_by_no_file {B = ⊤} table_and_data_roles olds news tt c.compare_words-end.result c.in-Ok.ensures.failed c.compare_words-end.ensures.of_texts;
      out_failed = c.compare_words-end.ensures.out_failed;
    }
