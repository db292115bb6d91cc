-- A run that writes some bytes for each line of its input, after some of its lines. Contracts of the parts of runs
-- cite this, and no contract of a whole run: no promise of a run rests on it.
use Rattle.std.specs.Prelude.{◌≡◌, ℕ, List, ◌++◌, Option, IfSome, Result, Ok, Err}
use Rattle.std.specs.List.{flat_map}
use Rattle.uca_weights.specs.Streams.{SourceState, SinkState}
use Rattle.uca_text.specs.Texts.{NfdText}
use Rattle.uca_lines.specs.Lines.{lines_of}
use Rattle.uca_lines.specs.OutputBuffer.{BufferState, IsBuffered}
use Rattle.uca_run_parts.specs.declared.faults.RunFault.{RunFault}
use Rattle.uca_run_parts.specs.declared.faults.RunFault.TheVariants.{Input, Write}
use Rattle.uca_run_parts.specs.declared.faults.InputKind.TheVariants.{Memory as InputMemory}
use Rattle.uca_run_parts.specs.Input.{clean_lines}
use Rattle.uca_run_parts.specs.Runs.{PartWentOut}
use Rattle.uca_run_parts.specs.Texts.{LinesState, HasRead, HasReadAll, HasNoText}

-- The bytes of these lines, which were read since the input had `start` and the output held `begun`, were written.
pub record HasWritten (read_of : List ℕ → NfdText) (bytes_of : List ℕ → List ℕ) (start begun : Option (List ℕ)) (before : List (List ℕ)) (lines : LinesState) (input : SourceState) (buffer : BufferState) (out : SinkState) : Type 0 where
  pub read : HasRead read_of start before lines input
  pub written : IsBuffered begun out.contents (flat_map bytes_of before) buffer

-- those of all lines were written
pub record HasWrittenAll (read_of : List ℕ → NfdText) (bytes_of : List ℕ → List ℕ) (start begun : Option (List ℕ)) (buffer : BufferState) (out : SinkState) : Type 0 where
  pub all : List (List ℕ)
  pub are_all : HasReadAll read_of start all
  pub written : IsBuffered begun out.contents (flat_map bytes_of all) buffer

-- part of a text went out with which the output begins
pub record IsPartOfOutput (read_of : List ℕ → NfdText) (bytes_of : List ℕ → List ℕ) (start begun now : Option (List ℕ)) (written : ℕ) : Type 0 where
  pub text : List ℕ
  pub went_out : PartWentOut begun now text written
  pub begins : IfSome start (λ bytes. (rest : List ℕ) × (flat_map bytes_of (clean_lines read_of (lines_of bytes)) ≡ text ++ rest))

-- why the bytes of the line after these were not written
abbrev pub IsStopped : (List ℕ → NfdText) → (List ℕ → List ℕ) → Option (List ℕ) → Option (List ℕ) → List (List ℕ) → SourceState → BufferState → SinkState → RunFault → Type 0
IsStopped read_of bytes_of start begun before input buffer out (Input number kind) = HasNoText read_of start before input number kind × IsBuffered begun out.contents (flat_map bytes_of before) buffer
IsStopped read_of bytes_of start begun before input buffer out (Write written) = IsPartOfOutput read_of bytes_of start begun out.contents written
IsStopped read_of bytes_of start begun before input buffer out _ = ⊥

-- What is returned of a text that is to be written after others: it was, or part of them all went out, or an
-- allocation failed and nothing changed.
abbrev pub WritesText : {A : Type 0} → Option (List ℕ) → List ℕ → List ℕ → ℕ → BufferState → SinkState → BufferState → SinkState → Result A RunFault → Type 0
WritesText begun before text number buffer out held now (Ok x) = IsBuffered begun now.contents (before ++ text) held
WritesText begun before text number buffer out held now (Err (Input line kind)) = (line ≡ number) × (kind ≡ InputMemory) × (held ≡ buffer) × (now ≡ out)
WritesText begun before text number buffer out held now (Err (Write written)) = PartWentOut begun now.contents (before ++ text) written
WritesText begun before text number buffer out held now (Err _) = ⊥

-- what is returned of all lines that are left: their bytes were written, or why those of one were not
abbrev pub WritesRest : {A : Type 0} → (List ℕ → NfdText) → (List ℕ → List ℕ) → Option (List ℕ) → Option (List ℕ) → SourceState → BufferState → SinkState → Result A RunFault → Type 0
WritesRest read_of bytes_of start begun input buffer out (Ok x) = HasWrittenAll read_of bytes_of start begun buffer out
WritesRest read_of bytes_of start begun input buffer out (Err fault) = (before : List (List ℕ)) × IsStopped read_of bytes_of start begun before input buffer out fault
