-- What the runs return of their input and their output.
use Rattle.std.specs.Prelude.{◌≡◌, ◌≢◌, [], ℕ, suc, ◌<◌, ◌≤◌, List, ◌∷◌, ◌++◌, Bool, true, false, Option, Some, IsSomeAnd, Result, Ok, Err, length, take}
use Rattle.std.specs.List.{flat_map}
use Rattle.std.specs.Io.KnownBytes.{Appends}
use Rattle.uca_text.specs.Texts.{NfdText}
use Rattle.uca_lines.specs.Lines.{is_lf, Lacks, ended, lines_of}
use Rattle.uca_run_parts.specs.declared.faults.InputKind.{InputKind}
use Rattle.uca_run_parts.specs.declared.faults.InputKind.TheVariants.{Utf8, TooLong, LongRun, Read, Limit, Memory as InputMemory}
use Rattle.uca_run_parts.specs.declared.faults.RunFault.{RunFault}
use Rattle.uca_run_parts.specs.declared.faults.RunFault.TheVariants.{Input, StoredKey, Write}
use Rattle.uca_run_parts.specs.Input.{cause_of, clean_lines, is_input_read_kind, is_stored_key_read}

-- ---- The input

-- Reading failed: the bytes are these lines, each ended by an LF, then a part without LF, and what the source has left.
pub record FailsAfter (bytes left : List ℕ) (before : List (List ℕ)) : Type 0 where
  pub part : List ℕ
  pub parts : bytes ≡ flat_map ended before ++ (part ++ left)
  pub lacks : Lacks is_lf part
  pub short : length part ≤ 4194304

-- the line after these has this cause
pub record HasLineCause (read_of : List ℕ → NfdText) (before rest : List (List ℕ)) (kind : InputKind) : Type 0 where
  pub line : List ℕ
  pub later : List (List ℕ)
  pub next : rest ≡ line ∷ later
  pub cause : cause_of read_of (length before) line ≡ Some kind

-- why the line after these is not read, where an allocation may fail at any line
abbrev pub HasCause : (List ℕ → NfdText) → List ℕ → Option (List ℕ) → List (List ℕ) → List (List ℕ) → InputKind → Type 0
HasCause read_of bytes left before rest Utf8 = HasLineCause read_of before rest Utf8
HasCause read_of bytes left before rest TooLong = HasLineCause read_of before rest TooLong
HasCause read_of bytes left before rest (LongRun place) = HasLineCause read_of before rest (LongRun place)
HasCause read_of bytes left before rest Limit = HasLineCause read_of before rest Limit
HasCause read_of bytes left before rest Read = IsSomeAnd left (λ unread. FailsAfter bytes unread before)
HasCause read_of bytes left before rest InputMemory = rest ≢ []

-- An error at line `number`: the lines before it have no error, and it has this cause.
pub record IsInputFault (read_of : List ℕ → NfdText) (bytes : List ℕ) (left : Option (List ℕ)) (before : List (List ℕ)) (number : ℕ) (kind : InputKind) : Type 0 where
  pub rest : List (List ℕ)
  pub lines : lines_of bytes ≡ before ++ rest
  pub place : number ≡ suc (length before)
  pub clean : (more : List (List ℕ)) × (clean_lines read_of (lines_of bytes) ≡ before ++ more)
  pub cause : HasCause read_of bytes left before rest kind

-- no line of the bytes has an error
abbrev pub IsClean : (List ℕ → NfdText) → List ℕ → Type 0
IsClean read_of bytes = clean_lines read_of (lines_of bytes) ≡ lines_of bytes

-- whether reading the input failed
abbrev pub is_input_read : {A : Type 0} → Result A RunFault → Bool
is_input_read (Ok x) = false
is_input_read (Err (Input number kind)) = is_input_read_kind kind
is_input_read (Err (StoredKey number kind)) = is_stored_key_read kind
is_input_read (Err _) = false

-- ---- The output
--
-- Each sink has its own error, which says how much went out to it. That of the output is Write. Another sink of a run
-- has another one, which changes nothing of what is said here of the output.

-- whether writing the output failed
abbrev pub ended_by_output : {A : Type 0} → Result A RunFault → Bool
ended_by_output (Ok x) = false
ended_by_output (Err (Write written)) = true
ended_by_output (Err _) = false

-- whether the run ended before anything was written to the output
abbrev pub ended_before_output : {A : Type 0} → Result A RunFault → Bool
ended_before_output (Ok x) = false
ended_before_output (Err (Write written)) = false
ended_before_output (Err _) = true

-- of a text the first `written` bytes went out, and not all of it
abbrev pub PartWentOut : Option (List ℕ) → Option (List ℕ) → List ℕ → ℕ → Type 0
PartWentOut begun now text written = Appends begun now (take written text) × (written < length text)

-- The error of a sink says how much of a text went out to it.
abbrev pub FailsToWrite : (ℕ → RunFault) → Option (List ℕ) → Option (List ℕ) → List ℕ → RunFault → Type 0
FailsToWrite Fault begun now text fault = (written : ℕ) × (fault ≡ Fault written) × PartWentOut begun now text written
