-- What is true of the keys of all texts, and of all elements.
use Rattle.std.specs.Prelude.{◌≡◌, ◌↔◌, ℕ, ◌<◌, ◌^◌, List, length, IsTrue}
use Rattle.uca_weights.specs.declared.Element.{Element}
use Rattle.uca_weights.specs.declared.Weighting.{Weighting}
use Rattle.uca_weights.specs.declared.Depth.{Depth}
use Rattle.uca_weights.specs.declared.Depth.TheVariants.{Identical}
use Rattle.uca_weights.specs.declared.Numbers.{Numbers}
use Rattle.uca_weights.specs.declared.Settings.{Settings}
use Rattle.uca_weights.specs.Kinds.{IsCompletelyIgnorable}
use Rattle.uca_values.specs.Content.{Entry, AreRows}
use Rattle.uca_text.specs.Texts.{NfdText, AreCanonicallyEquivalent}
use Rattle.uca_text.specs.Limits.{IsAccepted}
use Rattle.uca_elements.specs.Rows.{Rows, rows_of}
use Rattle.uca_elements.specs.Collations.{Collation, elements_of}
use Rattle.uca_order.specs.Levels.{is_completely_ignorable, level_count, lexicographic, compared, key_bytes}
use Rattle.uca_order.specs.Depths.{ReadText, read_text, levels_at, compared_at, key_at, text_key, texts_compared}
use Rattle.uca_order.specs.Fetched.{fetched_left, fetched_right}
use Rattle.uca_order.specs.StoredKeys.{stored_level}
use Rattle.uca_order.specs.Lengths.{HasShortRows}

-- The bytes of two keys compare as the elements do level by level, and are equal exactly where no level differs.
abbrev pub KeysCompareAsElements : Type 0
KeysCompareAsElements = (weighting : Weighting) (left right : List Element) →
    (lexicographic (key_bytes weighting left) (key_bytes weighting right) ≡ (compared weighting left right).order)
    × ((key_bytes weighting left ≡ key_bytes weighting right) ↔ ((compared weighting left right).level ≡ 0))

-- Two stored keys give the order of their elements and the level at which they differ, by their bytes alone.
abbrev pub StoredKeysCompareAsElements : Type 0
StoredKeysCompareAsElements = (weighting : Weighting) (left right : List Element) →
    (lexicographic (key_bytes weighting left) (key_bytes weighting right) ≡ (compared weighting left right).order)
    × (stored_level (level_count weighting) (key_bytes weighting left) (key_bytes weighting right) ≡ (compared weighting left right).level)

-- The keys of two texts give the order of the texts and the level at which they differ, by their bytes alone, at either
-- depth. They are equal exactly if no level differs.
pub record KeysCompareAsTexts : Type 0 where
  pub order : (depth : Depth) (weighting : Weighting) (left right : ReadText) →
      lexicographic (key_at depth weighting left) (key_at depth weighting right) ≡ (compared_at depth weighting left right).order
  pub level : (depth : Depth) (weighting : Weighting) (left right : ReadText) →
      stored_level (levels_at depth weighting) (key_at depth weighting left) (key_at depth weighting right) ≡ (compared_at depth weighting left right).level
  pub equal : (depth : Depth) (weighting : Weighting) (left right : ReadText) →
      (key_at depth weighting left ≡ key_at depth weighting right) ↔ ((compared_at depth weighting left right).level ≡ 0)

-- Two texts are given as code points before normalization. Their keys give their order and the level at which they differ.
abbrev pub StoredKeysCompareAsTexts : Type 0
StoredKeysCompareAsTexts = (c : Collation) (settings : Settings) (left right : List ℕ) →
    let left_key = text_key c settings left in
    let right_key = text_key c settings right in
    let answer = texts_compared c settings left right in
    (lexicographic left_key right_key ≡ answer.order)
    × (stored_level (levels_at settings.depth settings.weighting) left_key right_key ≡ answer.level)

-- Canonically equivalent texts have one key.
abbrev pub CanonicallyEquivalentTextsHaveEqualKeys : Type 0
CanonicallyEquivalentTextsHaveEqualKeys = (c : Collation) (settings : Settings) (left right : List ℕ) →
    AreCanonicallyEquivalent left right → text_key c settings left ≡ text_key c settings right

-- With an identical level texts that are not canonically equivalent have different keys.
abbrev pub IdenticalKeysAreOfEquivalentTexts : Type 0
IdenticalKeysAreOfEquivalentTexts = (c : Collation) (weighting : Weighting) (numbers : Numbers) (left right : List ℕ) →
    let settings : Settings = record { weighting = weighting; depth = Identical; numbers = numbers } in
    text_key c settings left ≡ text_key c settings right → AreCanonicallyEquivalent left right

-- The key of every accepted text is short, under rows as those of a table.
abbrev pub KeysAreShort : Type 0
KeysAreShort = (c : Collation) (depth : Depth) (weighting : Weighting) (text : NfdText) →
    HasShortRows c.rows → IsAccepted text → length (key_at depth weighting (read_text c text)) < 2 ^ 40

-- The counts of a comparison are far below 2^64 then.
abbrev pub CountsAreExact : Type 0
CountsAreExact = (c : Collation) (weighting : Weighting) (left right : NfdText) → HasShortRows c.rows → IsAccepted left → IsAccepted right →
    (fetched_left weighting (elements_of c left) (elements_of c right) < 2 ^ 64)
    × (fetched_right weighting (elements_of c left) (elements_of c right) < 2 ^ 64)

-- The rows of a table are short, under any lookup that finds them.
abbrev pub RowsAreShort : Type 0
RowsAreShort = (entries : List Entry) (rows : Rows) →
    AreRows entries → ((key : List ℕ) → rows key ≡ rows_of entries key) → HasShortRows rows

-- The test of the weighting finds the completely ignorable elements of UTS #10, section 3.
abbrev pub FindsCompletelyIgnorable : Type 0
FindsCompletelyIgnorable = (e : Element) → IsTrue (is_completely_ignorable e) ↔ IsCompletelyIgnorable e
