-- The key is that by what the collator keys texts by.
use Rattle.std.proofs.Common.{◌≡◌, subst}
use Rattle.std.specs.Arc.{arc_value}
use Rattle.std.specs.Prelude.{OnOk}
use Rattle.uca_weights.specs.declared.Settings.{Settings}
use Rattle.uca_match.specs.OwnedCollations.{owned_collation}
use Rattle.uca_order.specs.Keyings.{keying_by, key_of_bytes}
use Rattle.uca_owned.specs.Owned.{OwnedState, keying_in}
use Rattle.uca_owned.proofs.owned.OwnedCollator.make_key.Goals as goal

pub returns-clause-key : goal.returns-clause-key
returns-clause-key c =
    let key = c.write_key.new.keys.buffer.key in
    let text = c.args.text.now in
    let read = owned_collation (arc_value c.self.inside.collation) in
    subst (λ (s : OwnedState). OnOk c.write_key.result (key ≡ key_of_bytes (keying_in s) text)) c.self.view_is
    (subst (λ (settings : Settings). OnOk c.write_key.result (key ≡ key_of_bytes (keying_by read settings) text)) c.self.invariant.under
    (rw c.deref.ensures at c.write_key.ensures.key))
