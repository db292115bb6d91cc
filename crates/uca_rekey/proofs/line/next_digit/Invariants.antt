-- The bytes so far are spaces.
use Rattle.std.proofs.Common.{◌≡◌, ◌≤◌, length}
use Rattle.uca_rekey.specs.ChangedLines.{digits_of, from_tab}
use Rattle.uca_rekey.proofs.line.next_digit.Given as goal

abbrev pub invariant-loop-text : goal.invariant-loop-text
invariant-loop-text l = record {
  same : digits_of l.initial.text ≡ digits_of l.text;
  rest : from_tab l.initial.text ≡ from_tab l.text;
  shorter : length l.text ≤ length l.initial.text;
}

abbrev pub decreases-loop-text : goal.decreases-loop-text
decreases-loop-text l = length l.text
