-- The order is by the collator of the slot.
use Rattle.std.proofs.Common.{◌≡◌, subst}
use Rattle.std.specs.Prelude.{IfSome}
use Rattle.uca_order.specs.Keyings.{bytes_compared}
use Rattle.uca_c.specs.OpenCollators.{keying_at}
use Rattle.uca_c.proofs.at_once.order_at_once.Goals as goal

pub returns-clause-compared : goal.returns-clause-compared
returns-clause-compared c =
    let left = c.args.left.now in
    let right = c.args.right.now in
    subst (λ it. IfSome c.order_at_once.result (λ order.
    (order ≡ (bytes_compared (keying_at it) left right).order) × (1 ≡ (bytes_compared (keying_at it) left right).level)))
    c.opened.ensures.value c.order_at_once.ensures.compared
