-- The comparison is by what the collator keys texts by.
use Rattle.std.proofs.Common.{◌≡◌, subst}
use Rattle.std.specs.Prelude.{IfOk}
use Rattle.uca_order.specs.Keyings.{bytes_compared}
use Rattle.uca_owned.specs.Owned.{OwnedState, keying_in}
use Rattle.uca_owned.proofs.owned.OwnedCollator.compare.Goals as goal

pub returns-clause-compared : goal.returns-clause-compared
returns-clause-compared c =
    let left = c.args.left.now in
    let right = c.args.right.now in
    subst (λ (s : OwnedState). IfOk c.compare_bytes.result (λ found.
    (found.0 ≡ (bytes_compared (keying_in s) left right).order) × (found.1 ≡ (bytes_compared (keying_in s) left right).level)))
    c.self.view_is (rw c.deref.ensures at c.compare_bytes.ensures.compared)
