-- A text that goes to a writer through a buffer.
use Rattle.std.specs.Prelude.{◌≡◌, ℕ, List, Option, drop}
use Rattle.uca_weights.specs.Writes.{WentOut}

-- the bytes that wait, and how many went out
pub record BufferState : Type 0 where
  pub held : List ℕ
  pub written : ℕ

-- since the writer had `start` this text was written to the buffer: its first `written` bytes went out, the others wait
-- in the buffer
pub record IsBuffered (start now : Option (List ℕ)) (text : List ℕ) (buffer : BufferState) : Type 0 where
  pub went_out : WentOut start now text buffer.written
  pub held : buffer.held ≡ drop buffer.written text
