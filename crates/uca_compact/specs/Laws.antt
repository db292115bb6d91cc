-- What is true of all compact keys.
use Rattle.std.specs.Prelude.{◌≡◌, ◌↔◌, ℕ, ◌+◌, ◌*◌, ◌<◌, ◌≤◌, List, [], ◌++◌, length, Some}
use Rattle.std.specs.List.{AllByRecursion}
use Rattle.std.specs.Ordering.{ordering_then}
use Rattle.std.specs.Str.{IsUtf8}
use Rattle.uca_weights.specs.declared.Asked.{Asked}
use Rattle.uca_weights.specs.declared.Depth.{Depth}
use Rattle.uca_weights.specs.declared.Depth.TheVariants.{Weights}
use Rattle.uca_weights.specs.declared.Weighting.{Weighting}
use Rattle.uca_values.specs.Content.{TableContent, Properties, Fits, IsTable}
use Rattle.uca_order.specs.Levels.{lexicographic, compare_from}
use Rattle.uca_order.specs.Depths.{ReadText, key_at}
use Rattle.uca_order.specs.Keyings.{Keying, keying, bytes_compared}
use Rattle.uca_books.specs.Books.{BookContent, IsBook}
use Rattle.uca_compact.specs.Forms.{Form, AreForms, AreLevels}
use Rattle.uca_compact.specs.CompactKeys.{Plain, compact, KeyParts, text_parts, stored_key, compact_key, AreParts}
use Rattle.uca_compact.specs.CompactTexts.{compact_of_bytes}
use Rattle.uca_compact.specs.StoredParts.{stored_parts}

-- Compact keys compare as their levels do, and then by the bytes after them, whatever the plain levels are.
abbrev pub CompactLevelsKeepOrder : Type 0
CompactLevelsKeepOrder = (plain : Plain) (forms : List Form) (left right : List (List ℕ)) → AreForms forms → AreLevels (length forms) left → AreLevels (length forms) right →
    (xs ys : List ℕ) → lexicographic (compact plain forms left ++ xs) (compact plain forms right ++ ys)
    ≡ ordering_then (compare_from 1 left right).order (lexicographic xs ys)

-- ---- Keys

-- Keys with one compact key are one.
abbrev pub EachCompactKeyIsOfOneKey : Type 0
EachCompactKeyIsOfOneKey = (depth : Depth) (weighting : Weighting) (b : BookContent) (left right : KeyParts) → IsBook b →
    AreParts depth weighting left → AreParts depth weighting right →
    compact_key depth weighting b left ≡ compact_key depth weighting b right → left ≡ right

-- Without an identical level no compact key begins another one: where it does, both are one, and nothing follows.
abbrev pub NoCompactKeyBeginsAnother : Type 0
NoCompactKeyBeginsAnother = (weighting : Weighting) (b : BookContent) (left right : KeyParts) (more : List ℕ) → IsBook b →
    AreParts Weights weighting left → AreParts Weights weighting right →
    compact_key Weights weighting b left ++ more ≡ compact_key Weights weighting b right → (left.levels ≡ right.levels) × (more ≡ [])

-- The parts of a key are read from its bytes.
abbrev pub StoredKeysAreRead : Type 0
StoredKeysAreRead = (depth : Depth) (weighting : Weighting) (k : KeyParts) → AreParts depth weighting k →
    stored_parts depth weighting (stored_key depth k) ≡ Some k

-- Nothing is read from other bytes.
abbrev pub OnlyStoredKeysAreRead : Type 0
OnlyStoredKeysAreRead = (depth : Depth) (weighting : Weighting) (bytes : List ℕ) → AllByRecursion (λ b. b < 256) bytes →
    (k : KeyParts) → stored_parts depth weighting bytes ≡ Some k → AreParts depth weighting k × (bytes ≡ stored_key depth k)

-- A compact key has at most one byte more than two keys have.
abbrev pub CompactKeysAreShort : Type 0
CompactKeysAreShort = (depth : Depth) (weighting : Weighting) (b : BookContent) (k : KeyParts) →
    length (compact_key depth weighting b k) ≤ 2 * length (stored_key depth k) + 1

-- ---- Keys of texts

-- Elements have weights of 16 bits. Then byte order of the compact keys of texts is byte order of their keys, and so the
-- order of the texts. Compact keys are equal exactly if the keys are.
pub record CompactKeysKeepOrder : Type 0 where
  pub order : (depth : Depth) (weighting : Weighting) (b : BookContent) (left right : ReadText) → IsBook b →
      AllByRecursion Fits left.elements → AllByRecursion Fits right.elements →
      lexicographic (compact_key depth weighting b (text_parts depth weighting left)) (compact_key depth weighting b (text_parts depth weighting right))
      ≡ lexicographic (key_at depth weighting left) (key_at depth weighting right)
  pub equal : (depth : Depth) (weighting : Weighting) (b : BookContent) (left right : ReadText) → IsBook b →
      AllByRecursion Fits left.elements → AllByRecursion Fits right.elements →
      (compact_key depth weighting b (text_parts depth weighting left) ≡ compact_key depth weighting b (text_parts depth weighting right))
      ↔ (key_at depth weighting left ≡ key_at depth weighting right)
  -- the key is that of the parts
  pub key : (depth : Depth) (weighting : Weighting) (t : ReadText) → stored_key depth (text_parts depth weighting t) ≡ key_at depth weighting t

-- Under each table the compact keys of texts of UTF-8, by one book, compare as the texts do level by level. They are equal
-- exactly if no level differs.
abbrev pub CompactKeysCompareAsTexts : Type 0
CompactKeysCompareAsTexts = (asked : Asked) (table : TableContent) (properties : Properties) (b : BookContent) (left right : List ℕ) →
    IsTable table → IsBook b → IsUtf8 left → IsUtf8 right →
    let k : Keying = keying asked table properties in
    (lexicographic (compact_of_bytes b k left) (compact_of_bytes b k right) ≡ (bytes_compared k left right).order)
    × ((compact_of_bytes b k left ≡ compact_of_bytes b k right) ↔ ((bytes_compared k left right).level ≡ 0))
