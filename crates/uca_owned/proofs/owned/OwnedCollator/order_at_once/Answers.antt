-- The order is by what the collator keys texts by.
use Rattle.std.proofs.Common.{◌≡◌, subst}
use Rattle.std.specs.Prelude.{IfSome}
use Rattle.std.specs.Arc.{arc_value}
use Rattle.uca_order.specs.Keyings.{bytes_compared}
use Rattle.uca_match.specs.OwnedCollations.{owned_collation}
use Rattle.uca_owned.specs.Owned.{OwnedState, keying_in}
use Rattle.uca_owned.proofs.owned.OwnedCollator.order_at_once.Goals as goal

pub returns-clause-compared : goal.returns-clause-compared
returns-clause-compared c =
    let left = c.args.left.now in
    let right = c.args.right.now in
    subst (λ (s : OwnedState). IfSome c.order_at_once.result (λ order.
    (order ≡ (bytes_compared (keying_in s) left right).order) × (1 ≡ (bytes_compared (keying_in s) left right).level)))
    c.self.view_is (c.order_at_once.ensures.compared (owned_collation (arc_value c.self.inside.collation)) c.self.invariant.of_texts)

pub returns-clause-accepted : goal.returns-clause-accepted
returns-clause-accepted c = c.order_at_once.ensures.accepted (keying_in c.args.self.now)
