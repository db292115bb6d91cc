-- A compact key has its key, or is that of none.
use Rattle.std.proofs.Common.{List, ℕ}
use Rattle.uca_compact.specs.StoredParts.{IsCompactOf, IsOfNoKey}
use Rattle.uca_rekey.proofs.Changing.{key_or_none}
use Rattle.uca_rekey.proofs.changes.KeyExpanderChangesKeys.change.Goals as goal

pub returns-clause-key : goal.returns-clause-key
returns-clause-key g c =
    let by = c.args.self.now in
    key_or_none (IsOfNoKey by.settings.depth by.settings.weighting by.book c.args.key.now)
    (λ (key : List ℕ). IsCompactOf by.settings.depth by.settings.weighting by.book key c.args.key.now)
    c.write_key.new.key.items c.write_key.result c.write_key.ensures.key
