-- The order is by the collator inside.
use Rattle.std.proofs.Common.{◌≡◌, subst}
use Rattle.std.specs.Prelude.{IfSome}
use Rattle.uca_order.specs.Keyings.{bytes_compared}
use Rattle.uca_owned.specs.Causes.{IsAcceptedBy}
use Rattle.uca_c.specs.OpenCollators.{OpenState, keying_at}
use Rattle.uca_c.proofs.work.order_at_once.Goals as goal

pub returns-clause-compared : goal.returns-clause-compared
returns-clause-compared c =
    let left = c.args.left.now in
    let right = c.args.right.now in
    subst (λ (s : OpenState). IfSome c.order_at_once.result (λ order.
    (order ≡ (bytes_compared (keying_at s) left right).order) × (1 ≡ (bytes_compared (keying_at s) left right).level)))
    c.collator.view_is c.order_at_once.ensures.compared

pub returns-clause-accepted : goal.returns-clause-accepted
returns-clause-accepted c =
    let left = c.args.left.now in
    let right = c.args.right.now in
    subst (λ (s : OpenState). IfSome c.order_at_once.result (λ _. IsAcceptedBy (keying_at s) left × IsAcceptedBy (keying_at s) right))
    c.collator.view_is c.order_at_once.ensures.accepted
