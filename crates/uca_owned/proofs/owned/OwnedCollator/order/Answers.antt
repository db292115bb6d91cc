-- The order is by what the collator keys texts by.
use Rattle.std.proofs.Common.{subst}
use Rattle.std.specs.Prelude.{IfOk}
use Rattle.uca_owned.specs.Orders.{IsOrder}
use Rattle.uca_owned.specs.Owned.{OwnedState, keying_in}
use Rattle.uca_owned.proofs.owned.OwnedCollator.order.Goals as goal

pub returns-clause-order : goal.returns-clause-order
returns-clause-order c =
    subst (λ (s : OwnedState). IfOk c.order_bytes.result (IsOrder (keying_in s) c.args.left.now c.args.right.now)) c.self.view_is (rw c.deref.ensures at c.order_bytes.ensures.order)
