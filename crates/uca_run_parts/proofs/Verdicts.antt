-- What a run returns that ends with a verdict, from what is found and what went out of its line.
use Rattle.std.specs.Prelude.{◌≡◌, ◌||◌, ℕ, Bool, List, Option, true, false, Result, Ok, Err, MatchResult}
use Rattle.std.proofs.Common.{◌∙◌, ap, refl, subst, sym, true≢false}
use Rattle.uca_weights.specs.Streams.{SourceState, SinkState}
use Rattle.uca_run_parts.specs.declared.faults.RunFault.{RunFault}
use Rattle.uca_run_parts.specs.declared.faults.RunFault.TheVariants.{File, Memory, Write}
use Rattle.uca_run_parts.specs.Files.{ended_by_file}
use Rattle.uca_run_parts.specs.ReadFiles.{ReadsFiles}
use Rattle.uca_run_parts.specs.Runs.{FailsToWrite, ended_before_output, ended_by_output}
use Rattle.uca_run_parts.specs.Verdicts.{AcceptsOrStops, Audit, AuditsFiles, IsAuditVerdict, IsThis, RunsAudit, WritesVerdict}
use Rattle.uca_run_parts.proofs.FilesLemmas.{ended_by_files, failed_by_files, failed_by_no_file, runs_over_all}
use Rattle.uca_run_parts.proofs.Running.{as_before, file_before, no_write_before}

-- the verdict did not go out whole
pub verdict_cut : {V : Type 0} (Is : V → List ℕ → Type 0) (verdict : V) (line : List ℕ) (begun now : Option (List ℕ)) (fault : RunFault)
    → Is verdict line → FailsToWrite Write begun now line fault → WritesVerdict Is begun now (Err fault)
verdict_cut Is verdict line begun now fault is fails =
    subst (λ f. WritesVerdict Is begun now (Err f)) (sym fails.1) (verdict, line, is, fails.2)

-- a verdict and its line that were written are those that belong together
pub verdict_written : (Is : Bool → List ℕ → Type 0) (verdict : Bool) (line : List ℕ) (begun now : Option (List ℕ)) (result : Result Bool RunFault)
    → Is verdict line → WritesVerdict (IsThis verdict line) begun now result → WritesVerdict Is begun now result
verdict_written Is verdict line begun now result is writes = by_result result writes
  where
    these : (other : Bool) (also : List ℕ) → IsThis verdict line other also → Is other also
    these other also same = subst (λ v. Is v also) (sym same.0) (subst (λ l. Is verdict l) (sym same.1) is)

    by_result : (result : Result Bool RunFault) → WritesVerdict (IsThis verdict line) begun now result → WritesVerdict Is begun now result
    by_result (Ok other) writes = (writes.0, these other writes.0 writes.1, writes.2)
    by_result (Err (Write written)) writes = (writes.0, writes.1, these writes.0 writes.1 writes.2, writes.3)
    by_result (Err _) writes = absurd writes

-- ---- Audits

module _ {C F : Type 0} (audit : Audit C F) (content : C) (out out_new : SinkState) where
  -- a run of an audit writes its verdict and the line
  pub audit_written : (verdict : Bool) (line : List ℕ) (result : Result Bool RunFault) → IsAuditVerdict audit content verdict line
      → WritesVerdict (IsThis verdict line) out.contents out_new.contents result → RunsAudit audit out out_new result content
  audit_written verdict line result is writes =
      by_result result (verdict_written (IsAuditVerdict audit content) verdict line out.contents out_new.contents result is writes)
    where
      by_result : (result : Result Bool RunFault) → WritesVerdict (IsAuditVerdict audit content) out.contents out_new.contents result
          → RunsAudit audit out out_new result content
      by_result (Ok other) writes = writes
      by_result (Err (Write written)) writes = writes
      by_result (Err _) writes = absurd writes

  -- the error is no file's
  no_file_of_audit : (result : Result Bool RunFault) → RunsAudit audit out out_new result content → ended_by_file result ≡ false
  no_file_of_audit (Ok verdict) runs = refl
  no_file_of_audit (Err (File role cause)) runs = absurd runs
  no_file_of_audit (Err _) runs = refl

  -- before the output nothing was written
  nothing_before : (result : Result Bool RunFault) → RunsAudit audit out out_new result content → ended_before_output result ≡ true → out_new ≡ out
  nothing_before (Ok verdict) runs before = absurd (true≢false (sym before))
  nothing_before (Err (Write written)) runs before = absurd (true≢false (sym before))
  nothing_before (Err Memory) runs before = runs
  nothing_before (Err _) runs before = absurd runs

  module _ (never : (fault : F) → audit.refuses content fault → audit.accepts content → ⊥) where
    -- the verdict on what is accepted is `true`
    verdict_of_accepted : (verdict : Bool) (line : List ℕ) → IsAuditVerdict audit content verdict line → audit.accepts content → verdict ≡ true
    verdict_of_accepted true line is accepted = refl
    verdict_of_accepted false line is accepted = absurd (never is.0 is.1 accepted)

    -- so it is accepted, or the run stopped
    accepts_accepted : (result : Result Bool RunFault) → RunsAudit audit out out_new result content → audit.accepts content → AcceptsOrStops result
    accepts_accepted (Ok verdict) runs accepted = verdict_of_accepted verdict runs.0 runs.1 accepted
    accepts_accepted (Err (Write written)) runs accepted = tt
    accepts_accepted (Err Memory) runs accepted = tt
    accepts_accepted (Err _) runs accepted = absurd runs

-- The run of an audit that rejects nothing that it accepts, from what its files mean and what is returned for that. What was
-- read of the files is T, and a function of it is what they mean.
module _ {C F T : Type 0} (audit : Audit C F) (never : (content : C) (fault : F) → audit.refuses content fault → audit.accepts content → ⊥)
    (olds news : List SourceState) (out out_new : SinkState) (content_of : T → C) where
  pub audits : (read : Result T RunFault) (result : Result Bool RunFault) → ReadsFiles audit.files audit.file_roles olds news content_of read
      → MatchResult read (λ files. RunsAudit audit out out_new result (content_of files)) (λ fault. (result ≡ Err fault) × (out_new ≡ out))
      → MatchResult read (λ files. out_new.failed ≡ (out.failed || ended_by_output result)) (λ fault. out_new ≡ out)
      → AuditsFiles audit olds news out out_new result
  audits (Ok files) result reads runs failed =
      let no_file = no_file_of_audit audit (content_of files) out out_new result runs in
      record {
        runs = runs_over_all audit.files olds news (λ content. content_of files ≡ content) (RunsAudit audit out out_new result) files result no_file
            (λ content same. subst (RunsAudit audit out out_new result) same runs) reads.read;
        only = λ content mean accepted.
            accepts_accepted audit (content_of files) out out_new (never (content_of files)) result runs (subst audit.accepts (sym (reads.only content mean)) accepted);
        nothing_written = nothing_before audit (content_of files) out out_new result runs;
        failed = failed_by_no_file audit.file_roles olds news files result reads.failed no_file;
        out_failed = failed;
      }
  audits (Err fault) result reads ends same =
      subst (AuditsFiles audit olds news out out_new) (sym ends.0) (record {
        runs = ended_by_files Bool T audit.files olds news (RunsAudit audit out out_new (Err fault)) fault reads.read;
        only = λ content mean accepted. reads.only content mean;
        nothing_written = λ before. same;
        failed = failed_by_files Bool T audit.file_roles olds news fault reads.failed;
        out_failed = ap (λ (o : SinkState). o.failed) same ∙ as_before out.failed _ (no_write_before Bool T fault (file_before T T fault reads.of_files));
      })
