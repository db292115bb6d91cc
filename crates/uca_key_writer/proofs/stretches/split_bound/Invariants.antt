use Rattle.std.proofs.Common.{◌≡◌, ℕ, ◌++◌, List, length}
use denote.Text.{Utf8}
use denote.Shadow.{shadow}
use Rattle.std.specs.Str.{chars}
use Rattle.uca_key_writer.proofs.stretches.split_bound.Given as goal

-- what was skipped comes before the rest
abbrev pub invariant-loop-point : goal.invariant-loop-point
invariant-loop-point g l = record {
  utf8 : shadow (Utf8 l.rest);
  read : (more : List ℕ) × (chars l.text ≡ more ++ chars l.rest);
}

abbrev pub decreases-loop-point : goal.decreases-loop-point
decreases-loop-point g l = length (chars l.rest)
