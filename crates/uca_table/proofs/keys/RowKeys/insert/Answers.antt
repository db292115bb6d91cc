-- A key that is not of one code point is kept in the set.
use Rattle.uca_table.proofs.KeyBits.{kept_longer}
use Rattle.uca_table.proofs.KeepingLaws.{added_at}
use Rattle.uca_table.proofs.keys.RowKeys.insert.Goals as goal

pub returns-clause-added : goal.returns-clause-added
returns-clause-added g c = λ other.
    kept_longer c.args.self.now.bits.items c.args.key.now c.if-key-eq1.false _ _ other.items
    (added_at _ _ _ _ _ c.in_ok-key.ensures.items (c.in_ok-insert.ensures.updates.0 other))
