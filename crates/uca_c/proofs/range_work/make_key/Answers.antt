-- The key that was made is that of the text.
use Rattle.std.proofs.Common.{subst}
use Rattle.uca_owned.specs.Owned.{keying_in, key_in}
use Rattle.uca_order.specs.Keyings.{read_of}
use Rattle.uca_c.specs.OpenCollators.{OpenState, keying_at}
use Rattle.uca_c.specs.inside.TextKeys.{IsKeyOf}
use Rattle.uca_c.proofs.CompactTexts.{bytes_key}
use Rattle.uca_c.proofs.range_work.make_key.Goals as goal

pub returns-clause-key : goal.returns-clause-key
returns-clause-key c =
    subst (λ (s : OpenState). IsKeyOf (keying_at s).settings (read_of (keying_at s) c.args.text.now) (key_in c.make_key.new.self)) c.collator.view_is
    (bytes_key (keying_in c.collator.inside.collator) c.args.text.now (key_in c.make_key.new.self) c.in_default.ensures.accepted.utf8 c.in_default.ensures.key)
