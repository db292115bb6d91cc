-- What a clause sees of a `LineReader`.
use Rattle.std.specs.Prelude.{ℕ, List, Option}
use Rattle.std.specs.Io.KnownBytes.{prepend_known}
use Rattle.uca_weights.specs.Streams.{SourceState}

-- what was read and waits, how many lines were found, and how long one may be
pub record LineState : Type 0 where
  pub pending : List ℕ
  pub number : ℕ
  pub longest : ℕ

-- the bytes that are in no line yet, where they are known
abbrev pub left_of : LineState → SourceState → Option (List ℕ)
left_of lines source = prepend_known lines.pending source.remaining
