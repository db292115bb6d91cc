-- A short text is equal to itself by any collator. The collator is the same as before.
use Rattle.std.proofs.Common.{subst}
use Rattle.uca_order.specs.Keyings.{bytes_compared}
use Rattle.uca_c.specs.OpenCollators.{keying_at}
use Rattle.uca_c.specs.Slots.{collator_in}
use Rattle.uca_c.specs.Results.{IsComparison}
use Rattle.uca_c.proofs.SameTexts.{same_accepted, same_compared}
use Rattle.uca_c.proofs.exports.compare_longer.Goals as goal

pub returns-in-None-clause-ok : goal.returns-in-None-clause-ok
returns-in-None-clause-ok c is_ok =
    subst (λ it. IsComparison (bytes_compared (keying_at it) c.args.left.now c.args.right.now) c.compare_any.new.comparison.order c.compare_any.new.comparison.level)
    c.in-None.ensures.same (c.compare_any.ensures.ok is_ok)

pub returns-then-are_same_short-clause-ok : goal.returns-then-are_same_short-clause-ok
returns-then-are_same_short-clause-ok c is_ok =
    same_compared (keying_at (collator_in c.args.collator.now)) c.args.left.now c.args.right.now c.if-are_same_short.ensures.1

pub returns-then-are_same_short-clause-rejected : goal.returns-then-are_same_short-clause-rejected
returns-then-are_same_short-clause-rejected c =
    let same = c.if-are_same_short.ensures in
    same_accepted (keying_at (collator_in c.args.collator.now)) c.args.left.now c.args.right.now same.1 same.0 same.2
