use Rattle.std.proofs.Common.{arith}
use Rattle.uca_c.specs.OpenCollators.{keying_at}
use Rattle.uca_c.specs.Slots.{collator_in}
use Rattle.uca_c.proofs.SameTexts.{same_accepted, same_compared}
use Rattle.uca_c.proofs.exports.uca_compare.Goals as goal

pub returns-then-are_same_narrow-clause-ok : goal.returns-then-are_same_narrow-clause-ok
returns-then-are_same_narrow-clause-ok c is_ok =
    same_compared (keying_at (collator_in c.args.collator.now)) c.args.left.now c.args.right.now c.if-are_same_narrow.ensures.1

pub returns-then-are_same_narrow-clause-rejected : goal.returns-then-are_same_narrow-clause-rejected
returns-then-are_same_narrow-clause-rejected c is_full =
    let same = c.if-are_same_narrow.ensures in
    same_accepted (keying_at (collator_in c.args.collator.now)) c.args.left.now c.args.right.now same.1 (omega (arith, same.0)) same.2
