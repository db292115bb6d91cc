-- Lines that lie in the buffer that they were read into.
use Rattle.std.specs.Prelude.{◌≡◌, ℕ, ◌+◌, ◌^◌, ◌<◌, Bool, true, false, MatchBool, List, [], ◌∷◌, ◌++◌, length, take, drop, Option, None, Some, option_map, MatchOption, Result, Ok, Err, IfSome, IsSomeAnd, ⊤}
use Rattle.std.specs.Io.KnownBytes.{Consumes, IsAtEnd, prepend_known}
use Rattle.std.specs.List.{flat_map}
use Rattle.uca_weights.specs.Streams.{SourceState}
use Rattle.uca_lines.specs.Lines.{is_lf, Lacks, ended, lines_of}
use Rattle.uca_lines.specs.NextLine.{BeginsLonger, HasBytes}
use Rattle.uca_lines.specs.declared.lines.NextLine.{NextLine}
use Rattle.uca_lines.specs.declared.lines.NextLine.TheVariants.{Terminated, Unterminated, EndOfInput}
use Rattle.uca_run_parts.specs.declared.faults.StoredKeyKind.{StoredKeyKind}
use Rattle.uca_run_parts.specs.declared.faults.StoredKeyKind.TheVariants as kinds
use Rattle.uca_run_parts.specs.Input.{is_stored_key_read}
use Rattle.uca_run_parts.specs.LinesSoFar.{OnKnown}
use Rattle.uca_rekey.specs.declared.line.NextByte.{NextByte}
use Rattle.uca_rekey.specs.declared.line.NextByte.TheVariants.{Byte, End, NoByte}
use Rattle.uca_rekey.specs.ChangedLines.{byte_before, from_tab, key_in}
use Rattle.uca_rekey.specs.ChangeRun.{Begins, FailsAfter}

-- ---- Bytes

-- The line that was found last, what was read and waits after it, and whether the source has no more.
pub record LinesState : Type 0 where
  pub line : List ℕ
  pub pending : List ℕ
  pub at_end : Bool

-- the bytes that are in no line yet, where they are known
abbrev pub left_of : LinesState → SourceState → Option (List ℕ)
left_of lines source = prepend_known lines.pending source.remaining

-- the bytes begin with a line of this length, and its LF
pub record BeginsLine (bytes : List ℕ) (len : ℕ) : Type 0 where
  pub parts : bytes ≡ ended (take len bytes) ++ drop (len + 1) bytes
  pub lacks : Lacks is_lf (take len bytes)
  pub within : len < length bytes

-- the length of the first line of the bytes, if an LF ends it
abbrev pub IsFirstLine : List ℕ → Option ℕ → Type 0
IsFirstLine bytes len = MatchOption len (Lacks is_lf bytes) (BeginsLine bytes)

-- why no more was read after the bytes that wait
abbrev pub IsFillFault : List ℕ → StoredKeyKind → Type 0
IsFillFault pending kinds.Read = ⊤
IsFillFault pending kinds.Memory = 0 < length pending
IsFillFault pending _ = ⊥

-- whether the error is the reader's
abbrev pub is_read : {A : Type 0} → Result A StoredKeyKind → Bool
is_read (Ok x) = false
is_read (Err kind) = is_stored_key_read kind

-- What was found at the beginning of known bytes, and what is left after it. The source has something left.
abbrev pub FindsLine : Option (List ℕ) → Option (List ℕ) → Option (List ℕ) → List ℕ → Result NextLine StoredKeyKind → Type 0
FindsLine old new unread line (Ok Terminated) = Consumes old new (ended line) × Lacks is_lf line
FindsLine old new unread line (Ok Unterminated) = Consumes old new line × Lacks is_lf line × IsAtEnd new × (0 < length line)
FindsLine old new unread line (Ok EndOfInput) = IsAtEnd old
FindsLine old new unread line (Err kinds.TooLong) = BeginsLonger old (2 ^ 30)
FindsLine old new unread line (Err kinds.Read) = (part : List ℕ) × Consumes old unread part × Lacks is_lf part
FindsLine old new unread line (Err kinds.Memory) = HasBytes old
FindsLine old new unread line (Err _) = ⊥

-- what is found in the bytes that wait at the end of the source
abbrev pub IsLast : List ℕ → NextLine → Type 0
IsLast pending Terminated = ⊥
IsLast pending Unterminated = 0 < length pending
IsLast pending EndOfInput = pending ≡ []

-- whether the source has no more once this was found
abbrev pub EndsAs : Bool → Result NextLine StoredKeyKind → Type 0
EndsAs at_end (Ok Terminated) = at_end ≡ false
EndsAs at_end (Ok Unterminated) = at_end ≡ true
EndsAs at_end _ = ⊤

-- ---- Lines

-- The bytes are these lines, and what is left after them. Each line has its LF; if no LF ended the last one, nothing is left.
pub record IsAfter (bytes left : List ℕ) (at_end : Bool) (before : List (List ℕ)) : Type 0 where
  pub parts : MatchBool at_end (left ≡ []) (bytes ≡ flat_map ended before ++ left)
  pub lines : lines_of bytes ≡ before ++ lines_of left

-- these lines were read since the input had `start`
abbrev pub HasRead : Option (List ℕ) → List (List ℕ) → LinesState → SourceState → Type 0
HasRead start before lines input = OnKnown start (left_of lines input) (λ bytes left. IsAfter bytes left lines.at_end before)

-- why the line after these is not read
abbrev pub HasReadCause : List ℕ → Option (List ℕ) → List (List ℕ) → List (List ℕ) → StoredKeyKind → Type 0
HasReadCause bytes left before rest kinds.TooLong = Begins rest (λ line. 2 ^ 30 < length line)
HasReadCause bytes left before rest kinds.Read = IsSomeAnd left (λ unread. FailsAfter bytes unread before)
HasReadCause bytes left before rest kinds.Memory = Begins rest (λ line. ⊤)
HasReadCause bytes left before rest _ = ⊥

-- the line of these bytes after some is not read, and their source has something left
pub record IsNotRead (bytes : List ℕ) (left : Option (List ℕ)) (before : List (List ℕ)) (kind : StoredKeyKind) : Type 0 where
  pub rest : List (List ℕ)
  pub lines : lines_of bytes ≡ before ++ rest
  pub cause : HasReadCause bytes left before rest kind

-- what is returned where a line may come: the next line, that none is left, or why it is not read
abbrev pub ReadsLine : Option (List ℕ) → List (List ℕ) → LinesState → SourceState → Result Bool StoredKeyKind → Type 0
ReadsLine start before lines input (Ok more) =
    MatchBool more (HasRead start (before ++ lines.line ∷ []) lines input) (IfSome start (λ bytes. lines_of bytes ≡ before))
ReadsLine start before lines input (Err kind) = IfSome start (λ bytes. IsNotRead bytes input.remaining before kind)

-- ---- The key of a line

-- why the key that a line begins with is not read
abbrev pub IsKeyCause : List ℕ → StoredKeyKind → Type 0
IsKeyCause line kinds.NoKey = key_in line ≡ None
IsKeyCause line kinds.Memory = ⊤
IsKeyCause line _ = ⊥

-- the text begins with the digits of these bytes, and the rest follows them
pub record ReadsBytes (text bytes rest : List ℕ) : Type 0 where
  pub key : key_in text ≡ option_map (λ more. bytes ++ more) (key_in rest)
  pub tab : from_tab text ≡ from_tab rest

-- what comes next in the field of a key
abbrev pub IsNextByte : List ℕ → NextByte → Type 0
IsNextByte text (Byte byte rest) =
    (key_in text ≡ byte_before (Some byte) (key_in rest.now)) × (from_tab text ≡ from_tab rest.now) × (length rest.now < length text)
IsNextByte text End = key_in text ≡ Some []
IsNextByte text NoByte = key_in text ≡ None
