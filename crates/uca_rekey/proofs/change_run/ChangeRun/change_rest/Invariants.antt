-- The new lines so far were written, and neither reader nor writer has failed since.
use Rattle.std.proofs.Common.{◌≡◌, ℕ, ◌-◌, ◌^◌, List, Option}
use Rattle.uca_rekey.specs.ChangedLines.{Headers}
use Rattle.uca_rekey.specs.inside.ChangeSoFar.{HasChanged}
use Rattle.uca_rekey.proofs.change_run.ChangeRun.change_rest.Given as goal

abbrev pub invariant-loop-self : goal.invariant-loop-self
invariant-loop-self g l = record {
  change : l.self.change ≡ l.fn.self.change;
  changed : (headers : Option Headers) (start begun : Option (List ℕ)) (before news : List (List ℕ)) →
      HasChanged (g.C.ChangesKeys.means l.fn.self.change) headers start begun before news l.fn.self.lines l.fn.input l.fn.self.written l.fn.out →
      (now : List (List ℕ)) × (after : List (List ℕ)) × HasChanged (g.C.ChangesKeys.means l.fn.self.change) headers start begun now after l.self.lines l.input l.self.written l.out;
  input_failed : l.input.failed ≡ l.fn.input.failed;
  out_failed : l.out.failed ≡ l.fn.out.failed;
}

abbrev pub decreases-loop-self : goal.decreases-loop-self
decreases-loop-self g l = 2 ^ 64 - l.self.written.number
