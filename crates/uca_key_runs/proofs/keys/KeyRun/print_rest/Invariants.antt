-- What the output has of the lines so far was written, and neither reader nor writer has failed since.
use Rattle.std.proofs.Common.{◌≡◌, ℕ, ◌+◌, ◌-◌, ◌*◌, ◌^◌, ◌≤◌, List, Option, length}
use Rattle.uca_order.specs.Keyings.{text_of}
use Rattle.uca_key_runs.specs.Keys.{keying_at, keying_of_writer}
use Rattle.uca_key_runs.specs.inside.KeyForms.{MakesKeys, book_of, compacter_of, line_as}
use Rattle.uca_run_parts.specs.EachLineSoFar.{HasWritten}
use Rattle.uca_key_runs.proofs.keys.KeyRun.print_rest.Given as goal

abbrev pub invariant-loop-self : goal.invariant-loop-self
invariant-loop-self g l =
    let content = g.L.Lookup.content in
    let read_of = text_of (keying_of_writer content l.fn.self.key) in
    let bytes_of = line_as l.form (book_of l.fn.self.compacting) (keying_at content l.fn.self.key l.depth) in
    record {
      kept : keying_of_writer content l.self.key ≡ keying_of_writer content l.fn.self.key;
      compacter : compacter_of l.self.compacting ≡ compacter_of l.fn.self.compacting;
      makes : MakesKeys l.form l.depth (keying_of_writer content l.self.key);
      small : l.self.output.written + length l.self.output.held ≤ l.self.lines.reader.number * 2 ^ 43;
      written : (start begun : Option (List ℕ)) (before : List (List ℕ)) →
          HasWritten read_of bytes_of start begun before l.fn.self.lines l.fn.input l.fn.self.output l.fn.out →
          (now : List (List ℕ)) × HasWritten read_of bytes_of start begun now l.self.lines l.input l.self.output l.out;
      input_failed : l.input.failed ≡ l.fn.input.failed;
      out_failed : l.out.failed ≡ l.fn.out.failed;
    }

abbrev pub decreases-loop-self : goal.decreases-loop-self
decreases-loop-self g l = 1000000 - l.self.lines.reader.number
