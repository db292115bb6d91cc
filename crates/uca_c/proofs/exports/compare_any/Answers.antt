-- The comparison is by the collator of the slot. Of the same short text it is that of any collator.
use Rattle.std.proofs.Common.{subst}
use Rattle.uca_order.specs.Keyings.{bytes_compared}
use Rattle.uca_c.specs.OpenCollators.{keying_at}
use Rattle.uca_c.specs.Slots.{collator_in}
use Rattle.uca_c.specs.Results.{IsComparison}
use Rattle.uca_c.proofs.SameTexts.{same_accepted, same_compared}
use Rattle.uca_c.proofs.exports.compare_any.Goals as goal

pub returns-then-are_same_short-clause-ok : goal.returns-then-are_same_short-clause-ok
returns-then-are_same_short-clause-ok c is_ok =
    same_compared (keying_at (collator_in c.args.collator.now)) c.args.left.now c.args.right.now c.if-are_same_short.ensures.1

pub returns-then-are_same_short-clause-rejected : goal.returns-then-are_same_short-clause-rejected
returns-then-are_same_short-clause-rejected c =
    let same = c.if-are_same_short.ensures in
    same_accepted (keying_at (collator_in c.args.collator.now)) c.args.left.now c.args.right.now same.1 same.0 same.2

pub returns-clause-ok : goal.returns-clause-ok
returns-clause-ok c is_ok =
    subst (λ it. IsComparison (bytes_compared (keying_at it) c.args.left.now c.args.right.now) c.compare.new.comparison.order c.compare.new.comparison.level)
    c.opened.ensures.value (c.compare.ensures.ok is_ok)
