-- Short texts are accepted, and with numbers as text they are read as they are.
use Rattle.std.proofs.Common.{◌≡◌, true, sym, subst, refl, arith, rules}
use Rattle.std.specs.Str.{chars}
use Rattle.std.proofs.lemmas.Bool.{OnTrue_at}
use Rattle.uca_text.specs.Limits.{IsAccepted}
use Rattle.uca_weights.specs.declared.Numbers.{Numbers}
use Rattle.uca_order.specs.Depths.{written_text}
use Rattle.uca_text_comparer.specs.inside.Beginnings.{AreReadAsText}
use Rattle.uca_text_comparer.proofs.BeginningSteps.{differ_first_by, with_some}
use Rattle.uca_text_comparer.proofs.ReadLengths.{short_text_accepted}
use Rattle.uca_text_comparer.proofs.comparison.TextComparison.order_at_once.Goals as goal

pub returns-clause-compared : goal.returns-clause-compared
returns-clause-compared g c = λ collation known.
    let as_text : c.is_as_text.result ≡ true = search rules in
    differ_first_by collation c.args.settings (chars c.args.left.now) (chars c.args.right.now) c.order_at_once.result
    (subst (λ (n : Numbers). AreReadAsText n (chars c.args.left.now) (chars c.args.right.now)) (sym (OnTrue_at as_text c.is_as_text.ensures)) (refl, refl))
    (c.order_at_once.ensures collation known.heads)

pub returns-clause-accepted : goal.returns-clause-accepted
returns-clause-accepted g c = λ properties.
    let numbers = c.args.settings.numbers in
    with_some (IsAccepted (written_text numbers properties (chars c.args.left.now)) × IsAccepted (written_text numbers properties (chars c.args.right.now)))
    c.order_at_once.result (
      short_text_accepted numbers properties c.args.left.now c.utf8.left (omega (arith, c.if-left-gt-SHORT_TEXT.false)),
      short_text_accepted numbers properties c.args.right.now c.utf8.right (omega (arith, c.if-right-gt-SHORT_TEXT.false)),
    )
