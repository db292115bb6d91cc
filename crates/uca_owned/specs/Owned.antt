-- What a clause sees of an owned collator.
use Rattle.std.specs.Prelude.{ℕ, List}
use Rattle.uca_match.specs.NumberedKeys.{TrieContent, rows_at}
use Rattle.uca_order.specs.Keyings.{Keying, keying_by}
use Rattle.uca_key_writer.specs.Writers.{WriterState, collation_by}

-- what it reads texts by, its settings, and the key that was made last
abbrev pub OwnedState : Type 0
OwnedState = WriterState TrieContent

-- what it keys texts by
abbrev pub keying_in : OwnedState → Keying
keying_in c = keying_by (collation_by rows_at c) c.settings

-- the key that was made last
abbrev pub key_in : OwnedState → List ℕ
key_in c = c.key
