-- The rows of what a collator reads texts by are short.
use Rattle.std.proofs.Common.{◌≡◌, arith, subst}
use Rattle.std.specs.Arc.{arc_value}
use Rattle.uca_match.specs.OwnedCollations.{owned_collation}
use Rattle.uca_order.specs.Keyings.{keying_by, key_of_bytes}
use Rattle.uca_owned.specs.Bounds.{BoundsKeys, key_bound}
use Rattle.uca_owned.specs.Owned.{OwnedState, keying_in}
use Rattle.uca_owned.proofs.KeyBounds.{bounds_keys}
use Rattle.uca_owned.proofs.owned.OwnedCollator.key_bound.Goals as goal

pub returns-clause-bounds : goal.returns-clause-bounds
returns-clause-bounds c =
    let k = keying_by (owned_collation (arc_value c.self.inside.collation)) c.self.inside.settings in
    let is : key_bound c.args.len ≡ c.saturating_add.result = omega (arith, c.saturating_mul.ensures, c.saturating_add.ensures) in
    subst (λ (s : OwnedState). BoundsKeys (key_of_bytes (keying_in s)) c.args.len c.saturating_add.result) c.self.view_is
    (subst (BoundsKeys (key_of_bytes k) c.args.len) is (bounds_keys k c.args.len c.self.invariant.short))
