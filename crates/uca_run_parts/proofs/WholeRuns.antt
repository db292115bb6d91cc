-- Whole runs that write some bytes for each line of their input.
use Rattle.std.proofs.Common.{◌≡◌, List, ◌||◌, true, false, Result, Ok, Err, refl}
use Rattle.uca_weights.specs.Streams.{SourceState, SinkState}
use Rattle.uca_run_parts.specs.declared.faults.RunFault.{RunFault}
use Rattle.uca_run_parts.specs.declared.faults.Role.{Role}
use Rattle.uca_run_parts.specs.EachLine.{PrintsEach, ended_before_input}
use Rattle.uca_run_parts.specs.Files.{Reading, Over, HaveFailed}
use Rattle.uca_run_parts.specs.Runs.{is_input_read, ended_by_output}
use Rattle.uca_run_parts.proofs.FilesLemmas.{failed_by_files, failed_by_no_file, over_weaker, runs_over_all, same_fault}
use Rattle.uca_run_parts.proofs.Finishing.{before_file}
use Rattle.uca_run_parts.proofs.Running.{as_before, no_input_before, no_write_before, not_both}

module _ {C : Type 0} (reading : Reading C) (of : List Role) (K Runs : C → Type 0) (olds news : List SourceState) where
  -- a run that ended before its input
  pub ended_before : (A B : Type 0) (input : SourceState) (out : SinkState) (fault : RunFault) → ((content : C) → K content → Runs content)
      → Over {A = B} reading olds news K (Err fault) → ended_before_input {A = B} (Err fault) ≡ true → HaveFailed {A = B} of olds news (Err fault)
      → PrintsEach {A = A} reading of Runs olds news input input out out (Err fault)
  ended_before A B input out fault weaker over before failed = record {
    runs = over_weaker {A = B} {B = A} reading olds news K Runs (Err fault) (Err fault) (λ role. same_fault B A role fault) weaker over;
    nothing_written = λ ended. (refl, refl);
    input_failed = λ none. as_before input.failed _ (no_input_before A B fault before);
    failed = failed_by_files A B of olds news fault failed;
    out_failed = as_before out.failed _ (no_write_before A B fault before);
  }

  -- or by its lines
  pub ended_by_lines : {A B : Type 0} (input input_new : SourceState) (out out_new : SinkState) (files : B) (result : Result A RunFault)
      → ended_before_input result ≡ false → ((content : C) → K content → Runs content) → Over {A = B} reading olds news K (Ok files)
      → HaveFailed {A = B} of olds news (Ok files) → (ended_by_output result ≡ false → input_new.failed ≡ (input.failed || is_input_read result))
      → out_new.failed ≡ (out.failed || ended_by_output result) → PrintsEach reading of Runs olds news input input_new out out_new result
  ended_by_lines {A} {B} input input_new out out_new files result lines weaker over failed input_failed out_failed = record {
    runs = runs_over_all {A = A} {B = B} reading olds news K Runs files result (before_file result lines) weaker over;
    nothing_written = not_both _ lines;
    input_failed = input_failed;
    failed = failed_by_no_file {A = A} {B = B} of olds news files result failed (before_file result lines);
    out_failed = out_failed;
  }
