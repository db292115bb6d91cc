use Rattle.std.proofs.Common.{ap, sym, ◌∙◌}
use Rattle.uca_lines.specs.Numbers.{digits}
use Rattle.uca_change_files.proofs.Words.{no_point, point_spelled, point_other}
use Rattle.uca_change_files.proofs.points.point_of.Goals as goal

pub returns-in_err-point : goal.returns-in_err-point
returns-in_err-point c = rw c.from_residual.ensures (no_point c.args.word.now (sym c.in_err-point.was ∙ c.code_point.ensures))

pub returns-then-eq : goal.returns-then-eq
returns-then-eq c =
    point_spelled c.args.word.now c.six_digits-digits.result c.spare_digits.result c.in_ok-point.point c.eq.result
    (sym c.in_ok-point.was ∙ c.code_point.ensures) c.spare_digits.ensures (c.six_digits-digits.ensures ∙ ap (digits 6) c.from.ensures) c.eq.ensures c.if-eq.true

pub returns-else-eq : goal.returns-else-eq
returns-else-eq c =
    point_other c.args.word.now c.six_digits-digits.result c.spare_digits.result c.in_ok-point.point c.eq.result
    (sym c.in_ok-point.was ∙ c.code_point.ensures) c.spare_digits.ensures (c.six_digits-digits.ensures ∙ ap (digits 6) c.from.ensures) c.eq.ensures c.if-eq.false
