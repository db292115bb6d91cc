-- After each line, and where no line was read, or what the output has of it was not written.
use Rattle.std.specs.Prelude.{⊤}
use Rattle.std.proofs.Common.{Bool, Option, Err, [], ◌∷◌, ◌++◌, ◌+◌, ◌*◌, ◌^◌, ◌≤◌, length, refl, ap, subst, sym, ◌∙◌}
use Rattle.std.proofs.Math.Bool.{or-false}
use Rattle.std.specs.List.{flat_map}
use Rattle.std.proofs.lemmas.Result.{err_from_is_err_and}
use Rattle.uca_lines.specs.OutputBuffer.{IsBuffered}
use Rattle.uca_run_parts.specs.Texts.{LinesState, HasCleanLine, HasRead, HasReadAll, ReadsCleanLine}
use Rattle.uca_books.specs.Books.{BookContent}
use Rattle.uca_order.specs.Keyings.{Keying, keying_by, text_of}
use Rattle.uca_key_runs.specs.Keys.{keying_at, keying_of_writer}
use Rattle.uca_key_runs.specs.inside.KeyForms.{MakesKeys, book_of, compacter_of, line_as}
use Rattle.uca_run_parts.proofs.Printing.{line_written, no_line, not_written, no_write}
use Rattle.uca_run_parts.proofs.Running.{as_before}
use Rattle.uca_key_runs.proofs.ShownKeys.{same_book, still_for}
use Rattle.uca_key_runs.proofs.keys.KeyRun.print_rest.Goals as goal

pub loop-self-init : goal.loop-self-init
loop-self-init g c = record {
  kept = refl;
  compacter = refl;
  makes = c.requires.makes;
  small = c.requires.small;
  written = λ start begun before p. (before, p);
  input_failed = refl;
  out_failed = refl;
}

pub loop-self-preserved : goal.loop-self-preserved
loop-self-preserved g c =
    let read_of = text_of (keying_of_writer g.L.Lookup.content c.args.self.now.key) in
    let form = c.args.form in
    let content = g.L.Lookup.content in
    let bytes_of = line_as form (book_of c.args.self.now.compacting) (keying_at content c.args.self.now.key c.args.depth) in
    let lines = c.next.new.self.lines in
    let inv = c.loop-self.invariant in
    let next = rw c.if-branch.true at c.in_ok-next.ensures in
    let now = c.in_ok-print_line.ensures in
    let kept = ap (keying_of_writer content) now.key ∙ next.kept in
    let same = next.made
    ∙ ap (λ (b : Option BookContent). line_as form b (keying_at content c.loop-self.self.key c.args.depth) lines.line) (same_book _ _ inv.compacter)
    ∙ ap (λ (s : Keying). line_as form (book_of c.args.self.now.compacting) (keying_by s.collation (record { weighting = s.settings.weighting; depth = c.args.depth; numbers = s.settings.numbers })) lines.line) inv.kept in
    record {
      kept = kept ∙ inv.kept;
      compacter = ap compacter_of now.compacting ∙ next.compacter ∙ inv.compacter;
      makes = subst (MakesKeys form c.args.depth) (sym kept) inv.makes;
      small = subst (λ (l : LinesState). c.print_line.new.self.output.written + length c.print_line.new.self.output.held ≤ l.reader.number * 2 ^ 43) (sym now.lines) now.small;
      written = λ start begun before p.
          let i = inv.written start begun before p in
          let t = subst (λ (s : Keying). HasCleanLine (text_of s) start i.0 lines c.next.new.input) inv.kept
          (next.reads start i.0 (subst (λ (s : Keying). HasRead (text_of s) start i.0 c.loop-self.self.lines c.loop-self.input) (sym inv.kept) i.1.read)) in
          let held = subst (λ b. IsBuffered begun c.loop-self.out.contents (flat_map bytes_of i.0) b) (sym next.output) i.1.written in (
            i.0 ++ lines.line ∷ [],
            line_written read_of bytes_of start begun i.0 lines c.next.new.input t _ same c.print_line.new.self.lines c.print_line.new.self.output c.print_line.new.out
                now.lines (now.prints begun (flat_map bytes_of i.0) held),
          );
      input_failed = next.failed ∙ or-false _ ∙ inv.input_failed;
      out_failed = now.failed ∙ or-false _ ∙ inv.out_failed;
    }

-- the compacter is for the settings of the writer, as it was at the beginning
pub next-requires-clause-compact : goal.next-requires-clause-compact
next-requires-clause-compact g c =
    let inv = c.loop-self.invariant in
    still_for _ _ _ _ (sym inv.compacter) (ap (λ (s : Keying). s.settings) (sym inv.kept)) c.requires.compact

pub returns-in_err-next-clause-out_failed : goal.returns-in_err-next-clause-out_failed
returns-in_err-next-clause-out_failed g c =
    let q = err_from_is_err_and c.from_residual.result c.from_residual.ensures.1 in
    rw (q.1, q.2) (c.loop-self.invariant.out_failed ∙ as_before c.args.out.now.failed _ (no_write Bool ⊤ c.in_err-next.field-0.0 c.in_err-next.ensures.not_write))

pub returns-in_err-next-clause-prints : goal.returns-in_err-next-clause-prints
returns-in_err-next-clause-prints g c = λ start begun before p.
    let q = err_from_is_err_and c.from_residual.result c.from_residual.ensures.1 in
    let bytes_of = line_as c.args.form (book_of c.args.self.now.compacting) (keying_at g.L.Lookup.content c.args.self.now.key c.args.depth) in
    let i = c.loop-self.invariant.written start begun before p in
    let held = subst (λ b. IsBuffered begun c.loop-self.out.contents (flat_map bytes_of i.0) b) (sym c.in_err-next.ensures.output) i.1.written in
    let kept = c.loop-self.invariant.kept in
    let reads = subst (λ (s : Keying). ReadsCleanLine (text_of s) start i.0 c.next.new.self.lines c.next.new.input (Err c.in_err-next.field-0.0)) kept
    (c.in_err-next.ensures.reads start i.0 (subst (λ (s : Keying). HasRead (text_of s) start i.0 c.loop-self.self.lines c.loop-self.input) (sym kept) i.1.read)) in
    rw (q.1, q.2) (
      i.0,
      no_line (text_of (keying_of_writer g.L.Lookup.content c.args.self.now.key)) bytes_of start begun i.0 c.next.new.self.lines c.next.new.input c.next.new.self.output
          c.loop-self.out c.in_err-next.field-0.0 reads held,
    )

pub returns-in_err-print_line-clause-prints : goal.returns-in_err-print_line-clause-prints
returns-in_err-print_line-clause-prints g c = λ start begun before p.
    let q = err_from_is_err_and c.from_residual-in_err-print_line.result c.from_residual-in_err-print_line.ensures.1 in
    let read_of = text_of (keying_of_writer g.L.Lookup.content c.args.self.now.key) in
    let form = c.args.form in
    let bytes_of = line_as form (book_of c.args.self.now.compacting) (keying_at g.L.Lookup.content c.args.self.now.key c.args.depth) in
    let lines = c.next.new.self.lines in
    let inv = c.loop-self.invariant in
    let i = inv.written start begun before p in
    let next = rw c.if-branch.true at c.in_ok-next.ensures in
    let t = subst (λ (s : Keying). HasCleanLine (text_of s) start i.0 lines c.next.new.input) inv.kept
    (next.reads start i.0 (subst (λ (s : Keying). HasRead (text_of s) start i.0 c.loop-self.self.lines c.loop-self.input) (sym inv.kept) i.1.read)) in
    let same = next.made
    ∙ ap (λ (b : Option BookContent). line_as form b (keying_at g.L.Lookup.content c.loop-self.self.key c.args.depth) lines.line) (same_book _ _ inv.compacter)
    ∙ ap (λ (s : Keying). line_as form (book_of c.args.self.now.compacting) (keying_by s.collation (record { weighting = s.settings.weighting; depth = c.args.depth; numbers = s.settings.numbers })) lines.line) inv.kept in
    let held = subst (λ b. IsBuffered begun c.loop-self.out.contents (flat_map bytes_of i.0) b) (sym next.output) i.1.written in
    rw (q.1, q.2) (
      i.0,
      not_written read_of bytes_of start begun i.0 lines c.next.new.input t _ same c.next.new.self.output c.print_line.new.self.output
          c.loop-self.out c.print_line.new.out c.in_err-print_line.field-0.0 held
          (c.in_err-print_line.ensures.prints begun (flat_map bytes_of i.0) held),
    )

pub returns-clause-prints : goal.returns-clause-prints
returns-clause-prints g c = λ start begun before p.
    let i = c.loop-self.invariant.written start begun before p in
    let next = rw c.if-branch.false at c.in_ok-next.ensures in
    let held = subst (λ b. IsBuffered begun c.loop-self.out.contents (flat_map (line_as c.args.form (book_of c.args.self.now.compacting) (keying_at g.L.Lookup.content c.args.self.now.key c.args.depth)) i.0) b) (sym next.output) i.1.written in
    let kept = c.loop-self.invariant.kept in
    let all = subst (λ (s : Keying). HasReadAll (text_of s) start i.0) kept (next.reads start i.0 (subst (λ (s : Keying). HasRead (text_of s) start i.0 c.loop-self.self.lines c.loop-self.input) (sym kept) i.1.read)) in
    record { all = i.0; are_all = all; written = held }
