-- How much of a text went out: all of it, or its first bytes before an error.
use Rattle.std.specs.Prelude.{ℕ, List, Option, Result, ◌≤◌, length, take, MatchResult}
use Rattle.std.specs.Io.KnownBytes.{Appends}
use Rattle.uca_weights.specs.declared.streams.sink.WriteFault.{WriteFault}

-- of the text the first `written` bytes went out
abbrev pub WentOut : Option (List ℕ) → Option (List ℕ) → List ℕ → ℕ → Type 0
WentOut old new text written = Appends old new (take written text) × (written ≤ length text)

-- at Ok the whole text went out, and after an error its first `written` bytes
abbrev pub Writes : {A : Type 0} → Option (List ℕ) → Option (List ℕ) → List ℕ → Result A WriteFault → Type 0
Writes old new text r = MatchResult r (λ _. Appends old new text) (λ e. WentOut old new text e.written)
