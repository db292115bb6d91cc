-- What the result of a line reader says.
use Rattle.std.specs.Prelude.{ℕ, ◌<◌, ◌≤◌, Bool, true, false, List, Option, Result, Ok, Err, IfSome, length, codes, ⊤}
use Rattle.std.specs.List.{position_or_len}
use Rattle.std.specs.Io.KnownBytes.{Consumes, IsAtEnd}
use Rattle.uca_lines.specs.Lines.{is_lf, ended}
use Rattle.uca_lines.specs.declared.lines.TheConstants.{LINE_LIMIT}
use Rattle.uca_lines.specs.declared.lines.NextLine.{NextLine}
use Rattle.uca_lines.specs.declared.lines.NextLine.TheVariants.{Terminated, Unterminated, EndOfInput}
use Rattle.uca_lines.specs.declared.lines.LineFault.{LineFault}
use Rattle.uca_lines.specs.declared.lines.LineFault.TheVariants.{TooLong, Limit, Read, Memory}

-- the first line of known bytes has more than n bytes
abbrev pub BeginsLonger : Option (List ℕ) → ℕ → Type 0
BeginsLonger known n = IfSome known (λ xs. n < position_or_len is_lf xs)

-- known bytes are not at their end
abbrev pub HasBytes : Option (List ℕ) → Type 0
HasBytes known = IfSome known (λ xs. 0 < length xs)

-- Known bytes were left, and lost the line and its LF, the last line, or the part of a line that was read before an
-- error. `line` is that line or part.
abbrev pub SaysOfBytes : Option (List ℕ) → Option (List ℕ) → List ℕ → ℕ → Result NextLine LineFault → Type 0
SaysOfBytes old new line longest (Ok Terminated) = Consumes old new (ended line)
SaysOfBytes old new line longest (Ok Unterminated) = Consumes old new line × IsAtEnd new
SaysOfBytes old new line longest (Ok EndOfInput) = Consumes old new line × IsAtEnd new
SaysOfBytes old new line longest (Err TooLong) = Consumes old new line × BeginsLonger old longest
SaysOfBytes old new line longest (Err Limit) = Consumes old new line × HasBytes old
SaysOfBytes old new line longest (Err Read) = Consumes old new line
SaysOfBytes old new line longest (Err Memory) = Consumes old new line × HasBytes old

-- with this many lines before, this may be returned: the limit comes before all else but the end and a failed read
abbrev pub IsWithinLimit : ℕ → Result NextLine LineFault → Type 0
IsWithinLimit number (Ok Terminated) = number < LINE_LIMIT
IsWithinLimit number (Ok Unterminated) = number < LINE_LIMIT
IsWithinLimit number (Ok EndOfInput) = ⊤
IsWithinLimit number (Err TooLong) = number < LINE_LIMIT
IsWithinLimit number (Err Limit) = LINE_LIMIT ≤ number
IsWithinLimit number (Err Read) = ⊤
IsWithinLimit number (Err Memory) = number < LINE_LIMIT

-- whether a line was found
abbrev pub is_line : Result NextLine LineFault → Bool
is_line (Ok Terminated) = true
is_line (Ok Unterminated) = true
is_line (Ok EndOfInput) = false
is_line (Err fault) = false

-- whether the error is the reader's
abbrev pub is_read : Result NextLine LineFault → Bool
is_read (Ok next) = false
is_read (Err TooLong) = false
is_read (Err Limit) = false
is_read (Err Read) = true
is_read (Err Memory) = false

-- the text of an error of a line reader
abbrev pub line_fault_text : LineFault → List ℕ
line_fault_text TooLong = codes "the line is too long"
line_fault_text Limit = codes "there are too many lines"
line_fault_text Read = codes "the reader failed"
line_fault_text Memory = codes "out of memory"
