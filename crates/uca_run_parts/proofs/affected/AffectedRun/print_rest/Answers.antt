-- After each line, and where no text was read, or its line was not written.
use Rattle.std.specs.Prelude.{⊤}
use Rattle.std.proofs.Common.{Bool, refl, [], ◌∷◌, ◌++◌, ◌+◌, ◌*◌, ◌^◌, ◌≤◌, length, ap, subst, sym, ◌∙◌}
use Rattle.std.specs.List.{flat_map}
use Rattle.std.proofs.lemmas.Result.{err_from_is_err_and}
use Rattle.uca_text.specs.Texts.{NfdText}
use Rattle.uca_values.specs.Content.{properties_of}
use Rattle.uca_run_parts.specs.AffectedRun.{if_so, line_if}
use Rattle.uca_run_parts.specs.Input.{line_text}
use Rattle.uca_run_parts.specs.Texts.{TextsState}
use Rattle.uca_run_parts.proofs.Printing.{line_written, no_line, not_written, no_write}
use Rattle.uca_run_parts.proofs.Running.{as_before, still_failed}
use Rattle.uca_run_parts.proofs.affected.AffectedRun.print_rest.Goals as goal

pub loop-self-init : goal.loop-self-init
loop-self-init g c = record { small = c.requires.small; written = λ start begun before p. (before, p); input_failed = refl; out_failed = refl }

pub loop-self-preserved : goal.loop-self-preserved
loop-self-preserved g c =
    let read_of = line_text c.args.numbers (properties_of c.args.properties.now) in
    let bytes_of = line_if (g.X.Affects.affects c.args.affects.now) read_of in
    let texts = c.next.new.self in
    let inv = c.loop-self.invariant in
    let next = rw c.if-branch.true at c.in_ok-next.ensures in
    let now = c.in_ok-print_text.ensures in
    let same = ap (λ (text : NfdText). if_so (g.X.Affects.affects c.args.affects.now) text.points texts.lines.line) next.text in
    record {
      small = subst (λ (t : TextsState). c.print_text.new.self.output.written + length c.print_text.new.self.output.held ≤ t.lines.reader.number * 2 ^ 43) (sym now.texts) now.small;
      written = λ start begun before p.
          let i = inv.written start begun before p in
          let t = next.reads start i.0 i.1.read in (
            i.0 ++ texts.lines.line ∷ [],
            line_written read_of bytes_of start begun i.0 texts.lines c.next.new.input t _ same c.print_text.new.self.texts.lines c.print_text.new.self.output c.print_text.new.out
                (ap (λ (t : TextsState). t.lines) now.texts) (now.prints begun (flat_map bytes_of i.0) i.1.written),
          );
      input_failed = still_failed _ _ _ next.failed inv.input_failed;
      out_failed = still_failed _ _ _ now.failed inv.out_failed;
    }

pub returns-in_err-next-clause-prints : goal.returns-in_err-next-clause-prints
returns-in_err-next-clause-prints g c = λ start begun before p.
    let q = err_from_is_err_and c.from_residual.result c.from_residual.ensures.1 in
    let read_of = line_text c.args.numbers (properties_of c.args.properties.now) in
    let i = c.loop-self.invariant.written start begun before p in
    rw (q.1, q.2) (
      i.0,
      no_line read_of (line_if (g.X.Affects.affects c.args.affects.now) read_of) start begun i.0 c.next.new.self.lines c.next.new.input
          c.loop-self.self.output c.loop-self.out c.in_err-next.field-0.0 (c.in_err-next.ensures.reads start i.0 i.1.read) i.1.written,
    )

pub returns-in_err-next-clause-out_failed : goal.returns-in_err-next-clause-out_failed
returns-in_err-next-clause-out_failed g c =
    let q = err_from_is_err_and c.from_residual.result c.from_residual.ensures.1 in
    rw (q.1, q.2) (c.loop-self.invariant.out_failed ∙ as_before c.args.out.now.failed _ (no_write Bool ⊤ c.in_err-next.field-0.0 c.in_err-next.ensures.not_write))

pub returns-in_err-print_text-clause-prints : goal.returns-in_err-print_text-clause-prints
returns-in_err-print_text-clause-prints g c = λ start begun before p.
    let q = err_from_is_err_and c.from_residual-in_err-print_text.result c.from_residual-in_err-print_text.ensures.1 in
    let read_of = line_text c.args.numbers (properties_of c.args.properties.now) in
    let bytes_of = line_if (g.X.Affects.affects c.args.affects.now) read_of in
    let texts = c.next.new.self in
    let i = c.loop-self.invariant.written start begun before p in
    let next = rw c.if-branch.true at c.in_ok-next.ensures in
    let t = next.reads start i.0 i.1.read in
    let same = ap (λ (text : NfdText). if_so (g.X.Affects.affects c.args.affects.now) text.points texts.lines.line) next.text in
    rw (q.1, q.2) (
      i.0,
      not_written read_of bytes_of start begun i.0 texts.lines c.next.new.input t _ same c.loop-self.self.output c.print_text.new.self.output
          c.loop-self.out c.print_text.new.out c.in_err-print_text.field-0.0 i.1.written
          (c.in_err-print_text.ensures.prints begun (flat_map bytes_of i.0) i.1.written),
    )

pub returns-clause-prints : goal.returns-clause-prints
returns-clause-prints g c = λ start begun before p.
    let i = c.loop-self.invariant.written start begun before p in
    let next = rw c.if-branch.false at c.in_ok-next.ensures in
    record { all = i.0; are_all = next.reads start i.0 i.1.read; written = i.1.written }
