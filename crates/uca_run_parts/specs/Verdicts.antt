-- What a run writes that ends with a verdict, and what a run of an audit returns.
use Rattle.std.specs.Prelude.{◌≡◌, ℕ, List, [], ◌∷◌, ◌++◌, ◌||◌, Bool, true, false, Option, Result, Ok, Err, codes}
use Rattle.std.specs.Io.KnownBytes.{Appends}
use Rattle.uca_weights.specs.Streams.{SourceState, SinkState}
use Rattle.uca_run_parts.specs.declared.faults.Role.{Role}
use Rattle.uca_run_parts.specs.declared.faults.RunFault.{RunFault}
use Rattle.uca_run_parts.specs.declared.faults.RunFault.TheVariants.{Memory, Write}
use Rattle.uca_run_parts.specs.Files.{HaveFailed, IsStop, Mean, Over, Reading}
use Rattle.uca_run_parts.specs.Runs.{PartWentOut, ended_before_output, ended_by_output}

-- What is written by a writer that had `begun` and has `now`. It is a verdict and its line, which belong together by
-- (Is verdict line), or as much of the line as an error of the writer leaves.
abbrev pub WritesVerdict : {V : Type 0} → (V → List ℕ → Type 0) → Option (List ℕ) → Option (List ℕ) → Result V RunFault → Type 0
WritesVerdict Is begun now (Ok verdict) = (line : List ℕ) × Is verdict line × Appends begun now line
WritesVerdict {V} Is begun now (Err (Write written)) = (verdict : V) × (line : List ℕ) × Is verdict line × PartWentOut begun now line written
WritesVerdict Is begun now (Err _) = ⊥

-- a verdict and its line are these
abbrev pub IsThis : Bool → List ℕ → Bool → List ℕ → Type 0
IsThis verdict line other also = (other ≡ verdict) × (also ≡ line)

-- ---- Audits

-- An audit of what files mean, as that of a tailoring. It has the files and their roles, what it accepts, and what that
-- promises. All else it rejects by an error, which has a text.
pub record Audit (C F : Type 0) : Type 1 where
  pub files : Reading C
  pub file_roles : List Role
  pub accepts : C → Type 0
  pub promises : C → Type 0
  pub refuses : C → F → Type 0
  pub text : F → List ℕ

-- The verdict, and its line: what the files mean is accepted, with all that this promises; or an error of the audit.
abbrev pub IsAuditVerdict : {C F : Type 0} → Audit C F → C → Bool → List ℕ → Type 0
IsAuditVerdict audit content true line = audit.accepts content × audit.promises content × (line ≡ codes "accepted" ++ 10 ∷ [])
IsAuditVerdict {F = F} audit content false line = (fault : F) × audit.refuses content fault × (line ≡ audit.text fault ++ 10 ∷ [])

-- what a run of an audit returns for what its files mean; if an allocation failed, nothing was written
abbrev pub RunsAudit : {C F : Type 0} → Audit C F → SinkState → SinkState → Result Bool RunFault → C → Type 0
RunsAudit audit out out_new (Err Memory) content = out_new ≡ out
RunsAudit audit out out_new result content = WritesVerdict (IsAuditVerdict audit content) out.contents out_new.contents result

-- it is accepted, or the run stopped
abbrev pub AcceptsOrStops : Result Bool RunFault → Type 0
AcceptsOrStops (Ok verdict) = verdict ≡ true
AcceptsOrStops (Err fault) = IsStop fault

-- files that mean what the audit accepts are accepted, unless the run stops
abbrev pub AcceptsAccepted : {C F : Type 0} → Audit C F → List SourceState → Result Bool RunFault → Type 0
AcceptsAccepted {C = C} audit sources result = (content : C) → Mean audit.files sources content → audit.accepts content → AcceptsOrStops result

-- A run of an audit: what it returns if the bytes of its files are known, and that it accepts what is accepted. And for any
-- files and output, when nothing is written, and what has failed.
pub record AuditsFiles {C F : Type 0} (audit : Audit C F) (olds news : List SourceState) (out out_new : SinkState)
    (result : Result Bool RunFault) : Type 0 where
  pub runs : Over audit.files olds news (RunsAudit audit out out_new result) result
  pub only : AcceptsAccepted audit olds result
  pub nothing_written : ended_before_output result ≡ true → out_new ≡ out
  pub failed : HaveFailed audit.file_roles olds news result
  pub out_failed : out_new.failed ≡ (out.failed || ended_by_output result)
