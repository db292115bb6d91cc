-- What a run of check returns and writes.
use Rattle.std.specs.Prelude.{◌≡◌, ℕ, List, [], ◌∷◌, ◌++◌, ◌||◌, Bool, true, false, Result, codes}
use Rattle.uca_weights.specs.Streams.{SourceState, SinkState}
use Rattle.uca_values.specs.Content.{Entry}
use Rattle.uca_check.specs.declared.IllFormed.{IllFormed}
use Rattle.uca_check.specs.WellFormed.{IsWellFormed, IsFirstFailure}
use Rattle.uca_check.specs.FaultText.{ill_formed_text}
use Rattle.uca_run_parts.specs.declared.faults.RunFault.{RunFault}
use Rattle.uca_run_parts.specs.Files.{TableAndData, Over, HaveFailed, table_and_data, table_and_data_roles}
use Rattle.uca_run_parts.specs.Runs.{ended_before_output, ended_by_output}
use Rattle.uca_run_parts.specs.Verdicts.{WritesVerdict}

-- The verdict on rows, and its line: that they are well-formed, or the first condition that fails and its first row.
abbrev pub IsVerdict : (ℕ → ℕ) → List Entry → Bool → List ℕ → Type 0
IsVerdict class rows true line = IsWellFormed class rows × (line ≡ codes "well-formed" ++ 10 ∷ [])
IsVerdict class rows false line = (fault : IllFormed) × IsFirstFailure class rows fault.wf fault.row × (line ≡ ill_formed_text fault ++ 10 ∷ [])

-- what a run of check returns under a table and properties
abbrev pub RunsCheck : SinkState → SinkState → Result Bool RunFault → TableAndData → Type 0
RunsCheck out out_new result files = WritesVerdict (IsVerdict files.properties.class files.table.rows) out.contents out_new.contents result

-- A run of check: what it returns if the bytes of its files are known. And for any files and output, when nothing is
-- written, and what has failed.
pub record Checks (olds news : List SourceState) (out out_new : SinkState) (result : Result Bool RunFault) : Type 0 where
  pub runs : Over table_and_data olds news (RunsCheck out out_new result) result
  pub nothing_written : ended_before_output result ≡ true → out_new ≡ out
  pub failed : HaveFailed table_and_data_roles olds news result
  pub out_failed : out_new.failed ≡ (out.failed || ended_by_output result)
