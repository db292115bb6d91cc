-- Ranges find exactly the keys that are looked up.
use Rattle.std.specs.Prelude.{◌≡◌, ◌↔◌, ℕ, ◌<◌, ◌≤◌, List, [], ◌∷◌, ◌++◌}
use Rattle.std.specs.Str.{IsUtf8}
use Rattle.uca_weights.specs.declared.Asked.{Asked}
use Rattle.uca_weights.specs.declared.Depth.{Depth}
use Rattle.uca_weights.specs.declared.Weighting.{Weighting}
use Rattle.uca_order.specs.Levels.{level_count}
use Rattle.uca_values.specs.Content.{TableContent, Properties, IsTable}
use Rattle.uca_order.specs.Keyings.{Keying, keying, key_of_bytes}
use Rattle.uca_books.specs.Books.{BookContent, IsBook}
use Rattle.uca_compact.specs.Forms.{AreWeights, AreLevels}
use Rattle.uca_compact.specs.CompactKeys.{KeyParts, stored_key, compact_key, AreParts}
use Rattle.uca_compact.specs.CompactTexts.{parts_of, compact_of_bytes}
use Rattle.uca_ranges.specs.Ranges.{InRange, LettersBegin, LevelsBegin, levels_low, levels_high, letters_low, letters_high}
use Rattle.uca_ranges.specs.Ranges.{compact_levels_low, compact_levels_high, compact_letters_low, compact_letters_high}

-- Stored keys with these first levels: at least one, and at most all.
abbrev pub StoredKeysByLevels : Type 0
StoredKeysByLevels = (depth : Depth) (weighting : Weighting) (count : ℕ) (firsts : List (List ℕ)) (k : KeyParts) → 0 < count → count ≤ level_count weighting →
    AreLevels count firsts → AreParts depth weighting k →
    InRange (levels_low firsts) (levels_high firsts) (stored_key depth k) ↔ LevelsBegin firsts k.levels

-- Stored keys whose level 1 begins with these weights, and does not go on with FFFF.
abbrev pub StoredKeysByLetters : Type 0
StoredKeysByLetters = (depth : Depth) (weighting : Weighting) (letters : List ℕ) (k : KeyParts) → AreWeights letters → AreParts depth weighting k →
    InRange (letters_low letters) (letters_high letters) (stored_key depth k)
    ↔ (LettersBegin letters k.levels × (LettersBegin (letters ++ 0xFFFF ∷ []) k.levels → ⊥))

-- Compact keys with these first levels.
abbrev pub CompactKeysByLevels : Type 0
CompactKeysByLevels = (depth : Depth) (weighting : Weighting) (b : BookContent) (count : ℕ) (firsts : List (List ℕ)) (k : KeyParts) → IsBook b → 0 < count →
    count ≤ level_count weighting → AreLevels count firsts → AreParts depth weighting k →
    InRange (compact_levels_low weighting b firsts) (compact_levels_high weighting b firsts) (compact_key depth weighting b k) ↔ LevelsBegin firsts k.levels

-- Compact keys whose level 1 begins with these weights.
abbrev pub CompactKeysByLetters : Type 0
CompactKeysByLetters = (depth : Depth) (weighting : Weighting) (b : BookContent) (letters : List ℕ) (k : KeyParts) → IsBook b → AreWeights letters →
    AreParts depth weighting k →
    InRange (compact_letters_low weighting b letters) (compact_letters_high weighting b letters) (compact_key depth weighting b k) ↔ LettersBegin letters k.levels

-- Low ends tell the first levels: two are the same exactly if the levels are. Both have as many levels. So a low end can
-- be kept as a key of these levels.
abbrev pub StoredLowEndsTellLevels : Type 0
StoredLowEndsTellLevels = (count : ℕ) (left right : List (List ℕ)) → AreLevels count left → AreLevels count right →
    (levels_low left ≡ levels_low right) ↔ (left ≡ right)

-- So it is with compact keys: at least one level, and at most all.
abbrev pub CompactLowEndsTellLevels : Type 0
CompactLowEndsTellLevels = (weighting : Weighting) (b : BookContent) (count : ℕ) (left right : List (List ℕ)) → IsBook b → 0 < count → count ≤ level_count weighting →
    AreLevels count left → AreLevels count right →
    (compact_levels_low weighting b left ≡ compact_levels_low weighting b right) ↔ (left ≡ right)

-- ---- Texts that are given as bytes of UTF-8

-- Under each table the key of such a text has such parts.
pub record TextsHaveParts : Type 0 where
  pub parts : (asked : Asked) (table : TableContent) (properties : Properties) (bytes : List ℕ) → IsTable table → IsUtf8 bytes →
      let k : Keying = keying asked table properties in AreParts k.settings.depth k.settings.weighting (parts_of k bytes)
  pub key : (k : Keying) (bytes : List ℕ) → stored_key k.settings.depth (parts_of k bytes) ≡ key_of_bytes k bytes

-- A range has the key of a text, or its compact key, exactly if the text has the first levels or the letters that the range
-- is of.
pub record RangesFind (k : Keying) (bytes : List ℕ) : Type 0 where
  pub levels : (count : ℕ) (firsts : List (List ℕ)) → 0 < count → count ≤ level_count k.settings.weighting → AreLevels count firsts →
      InRange (levels_low firsts) (levels_high firsts) (key_of_bytes k bytes) ↔ LevelsBegin firsts (parts_of k bytes).levels
  -- letters that do not go on with FFFF
  pub letters : (letters : List ℕ) → AreWeights letters →
      InRange (letters_low letters) (letters_high letters) (key_of_bytes k bytes)
      ↔ (LettersBegin letters (parts_of k bytes).levels × (LettersBegin (letters ++ 0xFFFF ∷ []) (parts_of k bytes).levels → ⊥))
  pub compact_levels : (b : BookContent) (count : ℕ) (firsts : List (List ℕ)) → IsBook b → 0 < count → count ≤ level_count k.settings.weighting →
      AreLevels count firsts →
      InRange (compact_levels_low k.settings.weighting b firsts) (compact_levels_high k.settings.weighting b firsts) (compact_of_bytes b k bytes)
      ↔ LevelsBegin firsts (parts_of k bytes).levels
  pub compact_letters : (b : BookContent) (letters : List ℕ) → IsBook b → AreWeights letters →
      InRange (compact_letters_low k.settings.weighting b letters) (compact_letters_high k.settings.weighting b letters) (compact_of_bytes b k bytes)
      ↔ LettersBegin letters (parts_of k bytes).levels

abbrev pub RangesFindTexts : Type 0
RangesFindTexts = (asked : Asked) (table : TableContent) (properties : Properties) (bytes : List ℕ) → IsTable table → IsUtf8 bytes →
    RangesFind (keying asked table properties) bytes
