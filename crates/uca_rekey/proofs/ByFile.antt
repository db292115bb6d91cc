-- A whole run that changes the keys of lines by what a file means.
use Rattle.std.specs.Prelude.{⊤}
use Rattle.std.proofs.Common.{◌≡◌, ◌||◌, [], ◌∷◌, true, false, Option, Result, Ok, Err, refl, subst, subst₂}
use Rattle.uca_weights.specs.Streams.{SourceState, SinkState}
use Rattle.uca_run_parts.specs.declared.faults.Role.{Role}
use Rattle.uca_run_parts.specs.declared.faults.RunFault.{RunFault}
use Rattle.uca_run_parts.specs.declared.faults.RunFault.TheVariants.{Memory}
use Rattle.uca_run_parts.specs.declared.key_sizes.KeySizes.{KeySizes}
use Rattle.uca_run_parts.specs.EachLine.{ended_before_input}
use Rattle.uca_run_parts.specs.Files.{HaveFailed, Over, Reading, ended_by_file}
use Rattle.uca_run_parts.specs.Runs.{ended_by_output, is_input_read}
use Rattle.uca_run_parts.proofs.FilesLemmas.{failed_by_no_file, runs_over_all, stays}
use Rattle.uca_run_parts.proofs.Running.{file_before}
use Rattle.uca_run_parts.proofs.WholeRuns.{ended_before}
use Rattle.uca_rekey.specs.ChangedLines.{Headers, KeyChange}
use Rattle.uca_rekey.specs.ChangeRun.{ChangesLines, RunsChange}

module _ {C S : Type 0} (file : Reading C) (role : Role) (means : S → KeyChange) (of : C → S) (headers : C → Option Headers)
    (source source_new input : SourceState) (out : SinkState) where
  -- the file was read, and the lines run over
  pub file_read : (content : C) (by : S) (lines : Option Headers) (input_new : SourceState) (out_new : SinkState) (result : Result KeySizes RunFault)
      → by ≡ of content → lines ≡ headers content → Over {A = ⊤} file (source ∷ []) (source_new ∷ []) (λ c. content ≡ c) (Ok tt)
      → HaveFailed {A = ⊤} (role ∷ []) (source ∷ []) (source_new ∷ []) (Ok tt) → RunsChange (means by) lines input input_new out out_new result
      → (ended_before_input result ≡ true → (out_new ≡ out) × (input_new ≡ input)) → ended_by_file result ≡ false
      → (ended_by_output result ≡ false → input_new.failed ≡ (input.failed || is_input_read result)) → out_new.failed ≡ (out.failed || ended_by_output result)
      → ChangesLines file role (λ c. means (of c)) headers (source ∷ []) (source_new ∷ []) input input_new out out_new result
  file_read content by lines input_new out_new result same headed read failed runs nothing_written no_file input_failed out_failed =
      let here = subst₂ (λ (b : S) (hs : Option Headers). RunsChange (means b) hs input input_new out out_new result) same headed runs in
      record {
        runs = runs_over_all {B = ⊤} file (source ∷ []) (source_new ∷ []) (λ c. content ≡ c)
            (λ c. RunsChange (means (of c)) (headers c) input input_new out out_new result) tt result no_file
            (λ c is. subst (λ (it : C). RunsChange (means (of it)) (headers it) input input_new out out_new result) is here) read;
        nothing_written = nothing_written;
        input_failed = input_failed;
        failed = failed_by_no_file {B = ⊤} (role ∷ []) (source ∷ []) (source_new ∷ []) tt result failed no_file;
        out_failed = out_failed;
      }

  -- the file was rejected
  pub file_rejected : (fault : RunFault) → Over {A = ⊤} file (source ∷ []) (source_new ∷ []) (λ c. ⊥) (Err fault) → ended_by_file {A = ⊤} (Err fault) ≡ true
      → HaveFailed {A = ⊤} (role ∷ []) (source ∷ []) (source_new ∷ []) (Err fault)
      → ChangesLines {A = KeySizes} file role (λ c. means (of c)) headers (source ∷ []) (source_new ∷ []) input input out out (Err fault)
  file_rejected fault read of_files failed =
      ended_before file (role ∷ []) (λ c. ⊥) (λ c. RunsChange {A = KeySizes} (means (of c)) (headers c) input input out out (Err fault))
      (source ∷ []) (source_new ∷ []) KeySizes ⊤ input out fault (λ c never. absurd never) read (file_before ⊤ ⊤ fault of_files) failed

  -- an allocation failed before the input
  pub no_memory : (content : C) → Over {A = ⊤} file (source ∷ []) (source_new ∷ []) (λ c. content ≡ c) (Ok tt) → HaveFailed {A = ⊤} (role ∷ []) (source ∷ []) (source_new ∷ []) (Ok tt)
      → ChangesLines {A = KeySizes} file role (λ c. means (of c)) headers (source ∷ []) (source_new ∷ []) input input out out (Err Memory)
  no_memory content read failed = record {
    runs = runs_over_all {A = KeySizes} {B = ⊤} file (source ∷ []) (source_new ∷ []) (λ c. content ≡ c)
        (λ c. RunsChange {A = KeySizes} (means (of c)) (headers c) input input out out (Err Memory)) tt (Err Memory) refl (λ c is. tt) read;
    nothing_written = λ ended. (refl, refl);
    input_failed = λ none. stays input.failed;
    failed = failed_by_no_file {A = KeySizes} {B = ⊤} (role ∷ []) (source ∷ []) (source_new ∷ []) tt (Err Memory) failed refl;
    out_failed = stays out.failed;
  }
