-- What a run writes, from what is known of a line that was written.
use Rattle.std.specs.Prelude.{⊤}
use Rattle.std.proofs.Common.{◌≡◌, ◌∙◌, ◌||◌, ℕ, false, List, [], ◌∷◌, ◌++◌, Option, Result, Ok, Err, OnOk, IfErr, refl, ap, subst, sym}
use Rattle.std.specs.Io.KnownBytes.{Appends}
use Rattle.hex.specs.Hex.{encode_lower}
use Rattle.uca_weights.specs.Streams.{SourceState, SinkState}
use Rattle.uca_run_parts.specs.declared.faults.Role.{Role}
use Rattle.uca_run_parts.specs.declared.faults.RunFault.{RunFault}
use Rattle.uca_run_parts.specs.declared.faults.RunFault.TheVariants.{Write}
use Rattle.uca_run_parts.specs.Files.{HaveFailed, Over, Reading, ended_by_file}
use Rattle.uca_run_parts.specs.ReadFiles.{IsRead, ReadsFiles}
use Rattle.uca_run_parts.specs.Runs.{FailsToWrite, PartWentOut, ended_before_output, ended_by_output}
use Rattle.uca_run_parts.proofs.FilesLemmas.{ended_by_files, failed_by_files, failed_by_no_file, runs_over_all}
use Rattle.uca_run_parts.proofs.Running.{as_before, file_before, no_write_before, not_both}
use Rattle.uca_fingerprint_runs.specs.FingerprintRun.{PrintsLine, WritesText}

text_written : (begun now : Option (List ℕ)) (text line : List ℕ) (result : Result (Unit {0}) RunFault) → text ≡ line
    → OnOk result (Appends begun now text) → IfErr result (FailsToWrite Write begun now text) → WritesText line begun now result
text_written begun now text line (Ok x) same written failed = subst (Appends begun now) same written
text_written begun now text line (Err fault) same written failed =
    subst (λ f. WritesText {A = Unit {0}} line begun now (Err f)) (sym failed.1) (subst (λ t. PartWentOut begun now t failed.0) same failed.2)

-- the line is that of a sum, which is this one
pub sum_written : (begun now : Option (List ℕ)) (text sum wanted : List ℕ) (result : Result (Unit {0}) RunFault) → text ≡ encode_lower sum ++ 10 ∷ []
    → sum ≡ wanted → OnOk result (Appends begun now text) → IfErr result (FailsToWrite Write begun now text)
    → WritesText (encode_lower wanted ++ 10 ∷ []) begun now result
sum_written begun now text sum wanted result made same written failed =
    text_written begun now text (encode_lower wanted ++ 10 ∷ []) result (made ∙ ap (λ it. encode_lower it ++ 10 ∷ []) same) written failed

-- ---- Whole runs

module _ {A C : Type 0} (reading : Reading C) (of : List Role) (fingerprint : C → List ℕ) (olds news : List SourceState) (content_of : A → C) where
  -- a file was rejected
  pub files_rejected : (out : SinkState) (fault : RunFault) → ReadsFiles {A = A} reading of olds news content_of (Err fault)
      → PrintsLine {A = ⊤} reading of (λ files. encode_lower (fingerprint files) ++ 10 ∷ []) olds news out out (Err fault)
  files_rejected out fault reads = record {
    runs = ended_by_files ⊤ A reading olds news
        (λ files. WritesText {A = ⊤} (encode_lower (fingerprint files) ++ 10 ∷ []) out.contents out.contents (Err fault)) fault reads.read;
    nothing_written = λ before. refl;
    failed = failed_by_files ⊤ A of olds news fault reads.failed;
    out_failed = as_before out.failed _ (no_write_before ⊤ A fault (file_before ⊤ A fault reads.of_files));
  }

  -- the line of the fingerprint was written, or not whole
  pub line_printed : (out out_new : SinkState) (read : A) (text sum : List ℕ) (result : Result (Unit {0}) RunFault) → ReadsFiles reading of olds news content_of (Ok read)
      → text ≡ encode_lower sum ++ 10 ∷ [] → sum ≡ fingerprint (content_of read) → OnOk result (Appends out.contents out_new.contents text)
      → IfErr result (FailsToWrite Write out.contents out_new.contents text) → ended_by_file result ≡ false → ended_before_output result ≡ false
      → out_new.failed ≡ (out.failed || ended_by_output result)
      → PrintsLine reading of (λ files. encode_lower (fingerprint files) ++ 10 ∷ []) olds news out out_new result
  line_printed out out_new read text sum result reads made same written failed no_file no_early out_failed = record {
    runs = runs_over_all {B = A} reading olds news (λ content. content_of read ≡ content)
        (λ content. WritesText (encode_lower (fingerprint content) ++ 10 ∷ []) out.contents out_new.contents result) read result no_file
        (λ content is. subst (λ it. WritesText (encode_lower (fingerprint it) ++ 10 ∷ []) out.contents out_new.contents result) is
        (sum_written out.contents out_new.contents text sum (fingerprint (content_of read)) result made same written failed)) reads.read;
    nothing_written = not_both _ no_early;
    failed = failed_by_no_file {B = A} of olds news read result reads.failed no_file;
    out_failed = out_failed;
  }
