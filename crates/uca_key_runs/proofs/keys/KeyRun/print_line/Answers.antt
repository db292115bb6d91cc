-- The counts of what is written fit, and a write that fails leaves some of it.
use Rattle.std.proofs.Common.{◌≡◌, ◌+◌, ◌-◌, ◌<◌, ◌≤◌, length, arith, subst}
use Rattle.std.proofs.lemmas.Result.{err_from_is_err_and}
use Rattle.uca_lines.specs.Buffered.{count_of}
use Rattle.uca_key_runs.specs.inside.KeyForms.{printed_as, shown_of}
use Rattle.uca_key_runs.proofs.KeyLines.{printed_is_short}
use Rattle.uca_run_parts.proofs.Finishing.{piece_fails}
use Rattle.uca_run_parts.proofs.Printing.{small_enough, still_small}
use Rattle.uca_key_runs.proofs.keys.KeyRun.print_line.Goals as goal

pub print_as-requires : goal.print_as-requires
print_as-requires g c =
    let run = c.args.self.now in
    let number = run.lines.reader.number in
    let key = shown_of run.compacting run.key.key in
    let few : number - 1 < 1000000 = omega (arith, c.requires.few, c.requires.most) in
    let line_short : length run.lines.line ≤ 4194304 = subst (λ l. length l ≤ 4194304) c.line.ensures.value c.line.ensures.within in
    rw (c.shown.ensures, c.bytes.ensures, c.deref.ensures.value, c.line.ensures.value)
    (small_enough (number - 1) (count_of run.output) _ c.requires.small few
    (printed_is_short c.args.form c.args.depth key run.points.items run.lines.line c.requires.short c.requires.points line_short))

pub returns-in_err-print_as-clause-prints : goal.returns-in_err-print_as-clause-prints
returns-in_err-print_as-clause-prints g c = λ begun before h.
    let p = err_from_is_err_and c.from_residual.result c.from_residual.ensures.1 in
    rw (p.1, p.2) (rw (c.shown.ensures, c.bytes.ensures, c.deref.ensures.value, c.line.ensures.value) at (piece_fails begun before c.in_err-print_as.ensures h))

pub returns-clause-small : goal.returns-clause-small
returns-clause-small g c =
    let run = c.args.self.now in
    let number = run.lines.reader.number in
    let key = shown_of run.compacting run.key.key in
    let next : number ≡ number - 1 + 1 = omega (arith, c.requires.few) in
    let line_short : length run.lines.line ≤ 4194304 = subst (λ l. length l ≤ 4194304) c.line.ensures.value c.line.ensures.within in
    let count = rw (c.shown.ensures, c.bytes.ensures, c.deref.ensures.value, c.line.ensures.value) at c.in_ok-print_as.ensures.count in
    still_small (number - 1) number (count_of run.output) (count_of c.print_as.new.buffer)
    (length (printed_as c.args.form c.args.depth key run.points.items run.lines.line)) c.requires.small next
    (printed_is_short c.args.form c.args.depth key run.points.items run.lines.line c.requires.short c.requires.points line_short) count
