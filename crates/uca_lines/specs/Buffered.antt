-- What writing a text does to a buffer and a sink.
use Rattle.std.specs.Prelude.{◌≡◌, ℕ, ◌+◌, ◌^◌, ◌<◌, true, List, ◌++◌, length, Option, Result, MatchResult}
use Rattle.uca_weights.specs.Streams.{SinkState}
use Rattle.uca_weights.specs.Writes.{WentOut}
use Rattle.uca_weights.specs.declared.streams.sink.WriteFault.{WriteFault}
use Rattle.uca_lines.specs.OutputBuffer.{BufferState, IsBuffered}

-- how many bytes were written to the buffer
abbrev pub count_of : BufferState → ℕ
count_of buffer = buffer.written + length buffer.held

-- with this many more bytes the count is a number of 64 bits
abbrev pub HasRoom : BufferState → ℕ → Type 0
HasRoom buffer more = count_of buffer + more < 2 ^ 64

-- the text was written to the buffer, with any bytes that the writer had at the start, and any that were written since
pub record HasWrittenThrough (text : List ℕ) (buffer held : BufferState) (out now : SinkState) : Type 0 where
  pub writes : (start : Option (List ℕ)) (before : List ℕ) → IsBuffered start out.contents before buffer → IsBuffered start now.contents (before ++ text) held
  pub count : count_of held ≡ count_of buffer + length text
  pub failed : now.failed ≡ out.failed

-- the writer failed after this many bytes of all that was written before and of the text
pub record FailsToWriteThrough (text : List ℕ) (buffer : BufferState) (out now : SinkState) (written : ℕ) : Type 0 where
  pub went_out : (start : Option (List ℕ)) (before : List ℕ) → IsBuffered start out.contents before buffer → WentOut start now.contents (before ++ text) written
  pub not_all : written < count_of buffer + length text
  pub failed : now.failed ≡ true

-- a text was written to the buffer, or the writer failed
abbrev pub WritesThrough : {A : Type 0} → List ℕ → BufferState → BufferState → SinkState → SinkState → Result A WriteFault → Type 0
WritesThrough text buffer held out now r = MatchResult r (λ _. HasWrittenThrough text buffer held out now) (λ fault. FailsToWriteThrough text buffer out now fault.written)
