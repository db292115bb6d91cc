-- What a run returns and writes that writes some bytes for each line of its input, while it reads it.
use Rattle.std.specs.Prelude.{◌≡◌, ℕ, List, ◌||◌, Bool, true, false, Option, IfSome, Result, Ok, Err}
use Rattle.std.specs.List.{flat_map}
use Rattle.std.specs.Io.KnownBytes.{Appends}
use Rattle.uca_weights.specs.Streams.{SourceState, SinkState}
use Rattle.uca_text.specs.Texts.{NfdText}
use Rattle.uca_lines.specs.Lines.{lines_of}
use Rattle.uca_run_parts.specs.declared.faults.RunFault.{RunFault}
use Rattle.uca_run_parts.specs.declared.faults.RunFault.TheVariants.{File, Digits, Input, Write, Memory}
use Rattle.uca_run_parts.specs.declared.faults.Role.{Role}
use Rattle.uca_run_parts.specs.Files.{Reading, Over, HaveFailed}
use Rattle.uca_run_parts.specs.Input.{clean_lines}
use Rattle.uca_run_parts.specs.Runs.{IsClean, IsInputFault, PartWentOut, is_input_read, ended_by_output}

-- What is written of an input: the bytes of each line before the first one with an error. The source has something left,
-- and the writer held `begun` and holds `now`.
abbrev pub WritesEach : {A : Type 0} → (List ℕ → NfdText) → (List ℕ → List ℕ) → List ℕ → Option (List ℕ) → Option (List ℕ) → Option (List ℕ) → Result A RunFault → Type 0
WritesEach read_of bytes_of bytes left begun now (Ok x) = IsClean read_of bytes × Appends begun now (flat_map bytes_of (lines_of bytes))
WritesEach read_of bytes_of bytes left begun now (Err (Input number kind)) = (before : List (List ℕ)) × IsInputFault read_of bytes left before number kind × Appends begun now (flat_map bytes_of before)
WritesEach read_of bytes_of bytes left begun now (Err (Write written)) = PartWentOut begun now (flat_map bytes_of (clean_lines read_of (lines_of bytes))) written
WritesEach read_of bytes_of bytes left begun now (Err _) = ⊥

-- What is written of an input whose bytes are known: the bytes of its lines, or as many as an error of the input or of the
-- writer leaves.
abbrev pub RunsEach : {A : Type 0} → (List ℕ → NfdText) → (List ℕ → List ℕ) → SourceState → SourceState → SinkState → SinkState → Result A RunFault → Type 0
RunsEach read_of bytes_of input input_new out out_new result = IfSome input.remaining (λ bytes. WritesEach read_of bytes_of bytes input_new.remaining out.contents out_new.contents result)

-- whether the run ended before any line of the input was looked at
abbrev pub ended_before_input : {A : Type 0} → Result A RunFault → Bool
ended_before_input (Ok x) = false
ended_before_input (Err (File role fault)) = true
ended_before_input (Err (Digits row)) = true
ended_before_input (Err Memory) = true
ended_before_input (Err _) = false

-- A run that goes by the files of a reading, and writes while it reads its input: what it returns where the bytes of its
-- files are known. Whatever its files and streams are, a run that ended before its input did nothing with its streams. A
-- source or the output has failed where it had before, or where the run ended by just that.
pub record PrintsEach {A C : Type 0} (reading : Reading C) (of : List Role) (Runs : C → Type 0) (olds news : List SourceState)
    (input input_new : SourceState) (out out_new : SinkState) (result : Result A RunFault) : Type 0 where
  pub runs : Over reading olds news Runs result
  pub nothing_written : ended_before_input result ≡ true → (out_new ≡ out) × (input_new ≡ input)
  pub input_failed : ended_by_output result ≡ false → input_new.failed ≡ (input.failed || is_input_read result)
  pub failed : HaveFailed of olds news result
  pub out_failed : out_new.failed ≡ (out.failed || ended_by_output result)
