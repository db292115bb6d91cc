-- What an open collator of C's keys texts by, and the keys of texts by it.
use Rattle.std.specs.Prelude.{ℕ, List, Option, Some, None}
use Rattle.uca_order.specs.Keyings.{Keying, key_of_bytes}
use Rattle.uca_books.specs.Books.{BookContent}
use Rattle.uca_compact.specs.CompactTexts.{compact_of_bytes}
use Rattle.uca_owned.specs.Owned.{OwnedState, keying_in}

-- a collator, and the book of its compact keys, or none
pub record OpenState : Type 0 where
  pub collator : OwnedState
  pub book : Option BookContent

-- what it keys texts by
abbrev pub keying_at : OpenState → Keying
keying_at c = keying_in c.collator

-- the key of a text of UTF-8: the whole one where there is no book, and the compact one where there is one
abbrev pub key_by : Keying → Option BookContent → List ℕ → List ℕ
key_by k None bytes = key_of_bytes k bytes
key_by k (Some b) bytes = compact_of_bytes b k bytes
