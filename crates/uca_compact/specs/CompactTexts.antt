-- The parts of the keys of texts that are given as bytes of UTF-8, and their compact keys.
use Rattle.std.specs.Prelude.{ℕ, List}
use Rattle.uca_order.specs.Keyings.{Keying, read_of}
use Rattle.uca_books.specs.Books.{BookContent}
use Rattle.uca_compact.specs.CompactKeys.{KeyParts, text_parts, compact_key}

-- the levels of such a text, and its code points where the depth has them
abbrev pub parts_of : Keying → List ℕ → KeyParts
parts_of k bytes = text_parts k.settings.depth k.settings.weighting (read_of k bytes)

-- its compact key by a book
abbrev pub compact_of_bytes : BookContent → Keying → List ℕ → List ℕ
compact_of_bytes b k bytes = compact_key k.settings.depth k.settings.weighting b (parts_of k bytes)
