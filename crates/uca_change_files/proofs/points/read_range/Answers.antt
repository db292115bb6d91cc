use Rattle.uca_change_files.proofs.Words.{no_dots, half_spelled, ends_read}
use Rattle.uca_change_files.proofs.points.read_range.Goals as goal

pub returns-in_err-first : goal.returns-in_err-first
returns-in_err-first c = rw c.from_residual.ensures (no_dots c.args.text.now c.in_err-first.ensures)

pub returns-in_err-first-2 : goal.returns-in_err-first-2
returns-in_err-first-2 c = rw c.from_residual-in_err-first-2.ensures (λ r h. c.in_err-first-2.ensures r.first
    (half_spelled c.args.text.now c.in_ok-first.first.now c.in_ok-first.last.now c.in_ok-first.ensures r h).0)

pub returns-in_err-last : goal.returns-in_err-last
returns-in_err-last c = rw c.from_residual-in_err-last.ensures (λ r h. c.in_err-last.ensures r.last
    (half_spelled c.args.text.now c.in_ok-first.first.now c.in_ok-first.last.now c.in_ok-first.ensures r h).1)

pub returns : goal.returns
returns c = ends_read c.args.text.now c.in_ok-first.first.now c.in_ok-first.last.now c.in_ok-first-2.first c.in_ok-last.last c.in_ok-first.ensures
    c.in_ok-first-2.ensures c.in_ok-last.ensures
