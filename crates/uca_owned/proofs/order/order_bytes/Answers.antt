-- Texts that are compared are accepted, and all bytes are equal to themselves.
use Rattle.std.proofs.Common.{List, ℕ, sym, subst}
use Rattle.std.proofs.lemmas.Slice.Eq.{bytes_eq-Decides}
use Rattle.std.specs.declared.cmp.Ordering.TheVariants.{Equal}
use Rattle.uca_order.specs.Keyings.{keying_by}
use Rattle.uca_match.specs.OwnedCollations.{owned_collation}
use Rattle.uca_owned.specs.Orders.{IsOrder}
use Rattle.uca_owned.proofs.OrderLemmas.{accepted_order, same_order}
use Rattle.uca_owned.proofs.order.order_bytes.Goals as goal

pub returns-then-eq-clause-order : goal.returns-then-eq-clause-order
returns-then-eq-clause-order c =
    let left = c.args.left.now in
    let k = keying_by (owned_collation c.args.collation.now) c.args.settings.now in
    subst (λ (right : List ℕ). IsOrder k left right Equal) ((bytes_eq-Decides left c.args.right.now).0 (sym c.if-eq.ensures)) (same_order k left)

pub returns-in-Ok-clause-order : goal.returns-in-Ok-clause-order
returns-in-Ok-clause-order c =
    let found = c.in-Ok.ensures in
    accepted_order (keying_by (owned_collation c.args.collation.now) c.args.settings.now) c.args.left.now c.args.right.now c.in-Ok.pair.0
    found.accepted.0 found.accepted.1 found.compared.0
