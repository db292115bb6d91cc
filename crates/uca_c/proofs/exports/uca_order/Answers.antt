use Rattle.uca_c.specs.OpenCollators.{keying_at}
use Rattle.uca_c.specs.Slots.{collator_in}
use Rattle.uca_c.proofs.SameTexts.{same_ordered}
use Rattle.uca_c.proofs.exports.uca_order.Goals as goal

pub returns-then-are_same_narrow-clause-ok : goal.returns-then-are_same_narrow-clause-ok
returns-then-are_same_narrow-clause-ok c is_ok =
    same_ordered (keying_at (collator_in c.args.collator.now)) c.args.left.now c.args.right.now c.if-are_same_narrow.ensures.1
