-- The lines of the starts so far were added.
use Rattle.std.proofs.Common.{ℕ, List, ◌++◌, take}
use Rattle.sha2.specs.Hashers.{Holds256}
use Rattle.uca_fingerprint_runs.specs.inside.BookLines.{starts_lines}
use Rattle.uca_fingerprint_runs.proofs.book_sums.add_starts.Given as goal

abbrev pub invariant-loop-start : goal.invariant-loop-start
invariant-loop-start l = (text : List ℕ) → Holds256 l.initial.hasher text → Holds256 l.hasher (text ++ starts_lines l.level (take l.start-index l.starts))
