-- The affected lines so far were written, and neither reader nor writer has failed since.
use Rattle.std.proofs.Common.{◌≡◌, ℕ, ◌+◌, ◌-◌, ◌*◌, ◌^◌, ◌≤◌, List, Option, length}
use Rattle.uca_values.specs.Content.{properties_of}
use Rattle.uca_run_parts.specs.AffectedRun.{line_if}
use Rattle.uca_run_parts.specs.Input.{line_text}
use Rattle.uca_run_parts.specs.EachLineSoFar.{HasWritten}
use Rattle.uca_run_parts.proofs.affected.AffectedRun.print_rest.Given as goal

abbrev pub invariant-loop-self : goal.invariant-loop-self
invariant-loop-self g l =
    let read_of = line_text l.numbers (properties_of l.properties) in
    let bytes_of = line_if (g.X.Affects.affects l.affects) read_of in
    record {
      small : l.self.output.written + length l.self.output.held ≤ l.self.texts.lines.reader.number * 2 ^ 43;
      written : (start begun : Option (List ℕ)) (before : List (List ℕ)) →
          HasWritten read_of bytes_of start begun before l.fn.self.texts.lines l.fn.input l.fn.self.output l.fn.out →
          (now : List (List ℕ)) × HasWritten read_of bytes_of start begun now l.self.texts.lines l.input l.self.output l.out;
      input_failed : l.input.failed ≡ l.fn.input.failed;
      out_failed : l.out.failed ≡ l.fn.out.failed;
    }

abbrev pub decreases-loop-self : goal.decreases-loop-self
decreases-loop-self g l = 1000000 - l.self.texts.lines.reader.number
