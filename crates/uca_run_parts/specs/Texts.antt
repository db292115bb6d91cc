-- The lines of an input. Contracts of the parts of runs cite this, and no contract of a whole run: no promise of a run
-- rests on it.
use Rattle.std.specs.Prelude.{◌≡◌, ℕ, ◌+◌, Bool, false, MatchBool, List, [], ◌∷◌, ◌++◌, Option, Some, Result, Ok, Err, IfSome, length}
use Rattle.std.specs.Str.{IsUtf8}
use Rattle.uca_weights.specs.Streams.{SourceState}
use Rattle.uca_text.specs.Texts.{NfdText}
use Rattle.uca_text.specs.declared.normalize.TextFault.{TextFault}
use Rattle.uca_text.specs.declared.normalize.TextFault.TheVariants as text_fault
use Rattle.uca_lines.specs.LineReader.{LineState, left_of}
use Rattle.uca_lines.specs.declared.lines.LineFault.{LineFault}
use Rattle.uca_lines.specs.declared.lines.LineFault.TheVariants as line_fault
use Rattle.uca_run_parts.specs.declared.faults.InputKind.{InputKind}
use Rattle.uca_run_parts.specs.declared.faults.InputKind.TheVariants.{Utf8, TooLong, LongRun, Read, Limit, Memory}
use Rattle.uca_run_parts.specs.declared.faults.RunFault.{RunFault}
use Rattle.uca_run_parts.specs.declared.faults.RunFault.TheVariants.{Input}
use Rattle.uca_run_parts.specs.Input.{cause_of, is_input_read_kind}
use Rattle.uca_run_parts.specs.Runs.{IsInputFault}
use Rattle.uca_run_parts.specs.LinesSoFar.{IsAfter, IsNext, OnKnown, AreAll}

-- ---- Errors

-- the kind of a line's error, and of a text's
abbrev pub line_kind : LineFault → InputKind
line_kind line_fault.TooLong = TooLong
line_kind line_fault.Limit = Limit
line_kind line_fault.Read = Read
line_kind line_fault.Memory = Memory

abbrev pub text_kind : TextFault → InputKind
text_kind text_fault.TooLong = TooLong
text_kind (text_fault.LongRun place) = LongRun place
text_kind text_fault.Memory = Memory

-- The cause for which a line after this many others has no text. Only a line that is UTF-8 takes memory for its text.
abbrev pub HasTextCause : (List ℕ → NfdText) → ℕ → List ℕ → InputKind → Type 0
HasTextCause read_of before line Utf8 = cause_of read_of before line ≡ Some Utf8
HasTextCause read_of before line TooLong = cause_of read_of before line ≡ Some TooLong
HasTextCause read_of before line (LongRun place) = cause_of read_of before line ≡ Some (LongRun place)
HasTextCause read_of before line Limit = ⊥
HasTextCause read_of before line Read = ⊥
HasTextCause read_of before line Memory = IsUtf8 line

-- whether the error is the reader's
abbrev pub is_read : {A : Type 0} → Result A InputKind → Bool
is_read (Ok x) = false
is_read (Err kind) = is_input_read_kind kind

-- ---- Lines

-- What a clause sees of an `InputLines`: the reader of lines, the line that was read last, and whether no LF ended it.
pub record LinesState : Type 0 where
  pub reader : LineState
  pub line : List ℕ
  pub is_cut : Bool

-- These lines, none of them with an error, were read since the input had `start`.
pub record HasRead (read_of : List ℕ → NfdText) (start : Option (List ℕ)) (before : List (List ℕ)) (lines : LinesState) (input : SourceState) : Type 0 where
  pub after : OnKnown start (left_of lines.reader input) (λ bytes left. IsAfter read_of bytes left lines.is_cut before)
  pub count : lines.reader.number ≡ length before

-- no line is left after these
abbrev pub HasReadAll : (List ℕ → NfdText) → Option (List ℕ) → List (List ℕ) → Type 0
HasReadAll read_of start before = IfSome start (λ bytes. AreAll read_of bytes before)

-- why the line after these, which has this number, gives no text
abbrev pub HasNoText : (List ℕ → NfdText) → Option (List ℕ) → List (List ℕ) → SourceState → ℕ → InputKind → Type 0
HasNoText read_of start before input number kind = IfSome start (λ bytes. IsInputFault read_of bytes input.remaining before number kind)

-- The next line was read, and its bytes were not looked at.
pub record HasLine (read_of : List ℕ → NfdText) (start : Option (List ℕ)) (before : List (List ℕ)) (lines : LinesState) (input : SourceState) : Type 0 where
  pub next : OnKnown start (left_of lines.reader input) (λ bytes left. IsNext read_of bytes left lines.is_cut before lines.line)
  pub count : lines.reader.number ≡ length before + 1

-- what is returned where a line may come: the next line, that none is left, or why it is not read, with the number of the line
abbrev pub ReadsNextLine : (List ℕ → NfdText) → Option (List ℕ) → List (List ℕ) → LinesState → SourceState → Result Bool RunFault → Type 0
ReadsNextLine read_of start before lines input (Ok more) = MatchBool more (HasLine read_of start before lines input) (HasReadAll read_of start before)
ReadsNextLine read_of start before lines input (Err (Input number kind)) = HasNoText read_of start before input number kind
ReadsNextLine read_of start before lines input (Err _) = ⊥

-- The next line has no error. An allocation that fails now is an error of this line.
pub record HasCleanLine (read_of : List ℕ → NfdText) (start : Option (List ℕ)) (before : List (List ℕ)) (lines : LinesState) (input : SourceState) : Type 0 where
  pub read : HasRead read_of start (before ++ lines.line ∷ []) lines input
  pub memory : HasNoText read_of start before input lines.reader.number Memory

-- what is returned where a line without an error may come: the next line, that none is left, or why it gives no text
abbrev pub ReadsCleanLine : (List ℕ → NfdText) → Option (List ℕ) → List (List ℕ) → LinesState → SourceState → Result Bool RunFault → Type 0
ReadsCleanLine read_of start before lines input (Ok more) = MatchBool more (HasCleanLine read_of start before lines input) (HasReadAll read_of start before)
ReadsCleanLine read_of start before lines input (Err (Input number kind)) = HasNoText read_of start before input number kind
ReadsCleanLine read_of start before lines input (Err _) = ⊥

-- What a clause sees of an `InputTexts`: the lines, and the text of the one that was read last.
pub record TextsState : Type 0 where
  pub lines : LinesState
  pub text : NfdText
