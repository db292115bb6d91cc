-- A run that changes the keys of lines, after some of its lines.
use Rattle.std.specs.Prelude.{◌≡◌, ◌⊎◌, ℕ, suc, ◌+◌, ◌^◌, ◌<◌, Bool, true, false, MatchBool, List, [], ◌∷◌, ◌++◌, length, Option, option_map, Result, Ok, Err, IfSome, ⊤}
use Rattle.std.specs.Io.KnownBytes.{Appends}
use Rattle.std.specs.List.{flat_map}
use Rattle.uca_weights.specs.Streams.{SourceState, SinkState}
use Rattle.uca_lines.specs.Buffered.{HasWrittenThrough, FailsToWriteThrough, count_of}
use Rattle.uca_lines.specs.Lines.{ended, lines_of}
use Rattle.uca_lines.specs.OutputBuffer.{BufferState, IsBuffered}
use Rattle.uca_run_parts.specs.declared.faults.RunFault.{RunFault}
use Rattle.uca_run_parts.specs.declared.faults.RunFault.TheVariants.{StoredKey, Write}
use Rattle.uca_run_parts.specs.declared.faults.StoredKeyKind.{StoredKeyKind}
use Rattle.uca_run_parts.specs.declared.faults.StoredKeyKind.TheVariants as kinds
use Rattle.uca_run_parts.specs.Runs.{PartWentOut}
use Rattle.uca_rekey.specs.declared.change_run.HeaderLines.{HeaderLines}
use Rattle.uca_rekey.specs.ChangedLines.{Headers, KeyChange, LineBecomes, LinesBecomeAfter}
use Rattle.uca_rekey.specs.ChangeRun.{HasHeaderCause, IsLineFault}
use Rattle.uca_rekey.specs.inside.LinesInPlace.{LinesState, HasRead}

-- the error is that a key becomes none
abbrev pub IsOfKey : StoredKeyKind → Type 0
IsOfKey kinds.NoImage = ⊤
IsOfKey kinds.OtherKey = ⊤
IsOfKey kinds.NoCompactKey = ⊤
IsOfKey _ = ⊥

-- ---- What is written

-- what was written to the output, and how many lines that is
pub record WrittenState : Type 0 where
  pub buffer : BufferState
  pub number : ℕ

-- What is returned of a line that is to be written. It was; or a part of all that was to be written went out; or it does not fit, and nothing
-- changed.
abbrev pub WritesLine : {A : Type 0} → List ℕ → WrittenState → WrittenState → SinkState → SinkState → Result A RunFault → Type 0
WritesLine line old new out now (Ok x) = HasWrittenThrough (ended line) old.buffer new.buffer out now × (new.number ≡ old.number + 1)
WritesLine line old new out now (Err (StoredKey number kind)) =
    (number ≡ suc old.number) × (kind ≡ kinds.TooLong) × (2 ^ 63 < count_of old.buffer + length (ended line)) × (new ≡ old) × (now ≡ out)
WritesLine line old new out now (Err (Write written)) = FailsToWriteThrough (ended line) old.buffer out now written
WritesLine line old new out now (Err _) = ⊥

-- All that was written went out, or a part of it did. What it is and when it began is known to the run.
abbrev pub HasFlushed : BufferState → SinkState → SinkState → Type 0
HasFlushed buffer out now = (begun : Option (List ℕ)) (text : List ℕ) → IsBuffered begun out.contents text buffer → Appends begun now.contents text

abbrev pub FailsToFlush : BufferState → SinkState → SinkState → ℕ → Type 0
FailsToFlush buffer out now written = (begun : Option (List ℕ)) (text : List ℕ) → IsBuffered begun out.contents text buffer → PartWentOut begun now.contents text written

-- What a run returns that ended by `end`, where the writer had failed or not. If it had not, what waited is written.
abbrev pub EndsIf : {A : Type 0} → Bool → BufferState → SinkState → SinkState → Result A RunFault → Result A RunFault → Type 0
EndsIf true buffer out now end result = (result ≡ end) × (now ≡ out)
EndsIf false buffer out now end result =
    ((result ≡ end) × HasFlushed buffer out now) ⊎ ((written : ℕ) × (result ≡ Err (Write written)) × FailsToFlush buffer out now written)

-- ---- The lines so far

-- nothing was read and nothing written
pub record IsBegun (lines : LinesState) (written : WrittenState) : Type 0 where
  pub pending : lines.pending ≡ []
  pub at_end : lines.at_end ≡ false
  pub held : written.buffer.held ≡ []
  pub count : written.buffer.written ≡ 0
  pub number : written.number ≡ 0

-- These lines were read since the input had `start` and the output held `begun`, and their new lines were written.
pub record HasChanged (change : KeyChange) (headers : Option Headers) (start begun : Option (List ℕ)) (before news : List (List ℕ)) (lines : LinesState)
    (input : SourceState) (written : WrittenState) (out : SinkState) : Type 0 where
  pub read : HasRead start before lines input
  pub become : LinesBecomeAfter change headers before news
  pub text : IsBuffered begun out.contents (flat_map ended news) written.buffer
  pub count : written.number ≡ length before

-- the next line was read, and this is its new line
pub record HasNextChange (change : KeyChange) (start : Option (List ℕ)) (before : List (List ℕ)) (lines : LinesState) (input : SourceState)
    (new : List ℕ) : Type 0 where
  pub line : List ℕ
  pub read : HasRead start (before ++ line ∷ []) lines input
  pub becomes : LineBecomes change line new

-- what is returned where a line may come: its new line, that none is left, or why it has none
abbrev pub ChangesLine : KeyChange → Option Headers → Option (List ℕ) → List (List ℕ) → LinesState → SourceState → (new : List ℕ) → Result Bool RunFault → Type 0
ChangesLine change headers start before lines input new (Ok more) =
    MatchBool more (HasNextChange change start before lines input new) (IfSome start (λ bytes. lines_of bytes ≡ before))
ChangesLine change headers start before lines input new (Err (StoredKey number kind)) =
    IfSome start (λ bytes. IsLineFault change headers bytes input.remaining before number kind)
ChangesLine change headers start before lines input new (Err _) = ⊥

-- what is returned of all lines that are left: their new lines were written, or why that of one was not
abbrev pub ChangesRest : {A : Type 0} → KeyChange → Option Headers → Option (List ℕ) → Option (List ℕ) → SourceState → BufferState → SinkState → Result A RunFault → Type 0
ChangesRest change headers start begun input buffer out (Ok x) =
    (before news : List (List ℕ)) × IfSome start (λ bytes. lines_of bytes ≡ before) × LinesBecomeAfter change headers before news × IsBuffered begun out.contents (flat_map ended news) buffer
ChangesRest change headers start begun input buffer out (Err (StoredKey number kind)) =
    (before news : List (List ℕ)) × IfSome start (λ bytes. IsLineFault change headers bytes input.remaining before number kind)
    × LinesBecomeAfter change headers before news × IsBuffered begun out.contents (flat_map ended news) buffer
ChangesRest change headers start begun input buffer out (Err (Write written)) =
    (before news : List (List ℕ)) × IfSome start (λ bytes. (rest : List (List ℕ)) × (lines_of bytes ≡ before ++ rest)) × LinesBecomeAfter change headers before news
    × PartWentOut begun out.contents (flat_map ended news) written
ChangesRest change headers start begun input buffer out (Err _) = ⊥

-- ---- The headers

-- a header, and the one in its place
abbrev pub header_pair : List ℕ → List ℕ → Headers
header_pair old new = record { old = old; new = new }

-- the headers of a run, if it has some
abbrev pub headers_of : Option HeaderLines → Option Headers
headers_of lines = option_map (λ (h : HeaderLines). record { old = h.from; new = h.to }) lines

-- what is returned where a first line has to be this header
abbrev pub ReadsHeader : {A : Type 0} → List ℕ → Option (List ℕ) → LinesState → SourceState → Result A StoredKeyKind → Type 0
ReadsHeader header start lines input (Ok x) = HasRead start (header ∷ []) lines input
ReadsHeader header start lines input (Err kind) = IfSome start (λ bytes. HasHeaderCause header bytes input.remaining (lines_of bytes) kind)

-- the header was read, and nothing was written
pub record HasReadHeader (header : List ℕ) (start begun : Option (List ℕ)) (lines : LinesState) (input : SourceState) (written : WrittenState) (out : SinkState) : Type 0 where
  pub read : HasRead start (header ∷ []) lines input
  pub text : IsBuffered begun out.contents [] written.buffer
  pub count : written.number ≡ 0
