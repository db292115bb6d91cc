-- Short texts are accepted. Those that are read as they are have the order of what comes after their beginning.
use Rattle.std.proofs.Common.{◌≡◌, true, arith, rules}
use Rattle.std.specs.Str.{chars}
use Rattle.std.proofs.lemmas.Bool.{OnTrue_at}
use Rattle.uca_text.specs.Limits.{IsAccepted}
use Rattle.uca_order.specs.Depths.{written_text}
use Rattle.uca_text_comparer.proofs.BeginningSteps.{differ_first_by, with_some}
use Rattle.uca_text_comparer.proofs.ReadLengths.{short_text_accepted}
use Rattle.uca_text_comparer.proofs.comparison.TextComparison.order_after.Goals as goal

pub returns-clause-compared : goal.returns-clause-compared
returns-clause-compared g c = λ collation known.
    let as_text : c.are_read_as_text.result ≡ true = search rules in
    differ_first_by collation c.args.settings (chars c.args.left.now) (chars c.args.right.now) c.order_rests.result
    (OnTrue_at as_text c.are_read_as_text.ensures) (c.order_rests.ensures collation known.entries known.heads)

pub returns-clause-accepted : goal.returns-clause-accepted
returns-clause-accepted g c = λ properties.
    let numbers = c.args.settings.numbers in
    with_some (IsAccepted (written_text numbers properties (chars c.args.left.now)) × IsAccepted (written_text numbers properties (chars c.args.right.now)))
    c.order_rests.result (
      short_text_accepted numbers properties c.args.left.now c.utf8.left (omega (arith, c.if-left-gt-SHORT_TEXT.false)),
      short_text_accepted numbers properties c.args.right.now c.utf8.right (omega (arith, c.if-right-gt-SHORT_TEXT.false)),
    )
