-- The parts of keys of texts, and the ranges that have the keys.
use Rattle.std.proofs.Common.{◌≡◌, ◌↔◌, ℕ, List, [], ◌∷◌, ◌++◌, refl, subst}
use Rattle.std.specs.Str.{IsUtf8}
use Rattle.uca_weights.specs.declared.Asked.{Asked}
use Rattle.uca_weights.specs.declared.Depth.{Depth}
use Rattle.uca_weights.specs.declared.Depth.TheVariants.{Weights, Identical}
use Rattle.uca_weights.specs.declared.Weighting.{Weighting}
use Rattle.uca_values.specs.Content.{TableContent, Properties, IsTable}
use Rattle.uca_order.specs.Depths.{ReadText, key_at}
use Rattle.uca_order.specs.Keyings.{Keying, keying, read_of, key_of_bytes}
use Rattle.uca_compact.specs.CompactKeys.{text_parts, stored_key}
use Rattle.uca_compact.specs.CompactTexts.{parts_of}
use Rattle.uca_compact.proofs.CompactTexts.{parts_are}
use Rattle.uca_ranges.specs.Ranges.{InRange, LettersBegin, LevelsBegin, levels_low, levels_high, letters_low, letters_high}
use Rattle.uca_ranges.specs.Laws.{TextsHaveParts, RangesFindTexts}
use Rattle.uca_ranges.proofs.StoredRanges.{stored_by_levels, stored_by_letters}
use Rattle.uca_ranges.proofs.CompactLevels.{compact_by_levels}
use Rattle.uca_ranges.proofs.CompactLetters.{compact_by_letters}

-- the key is made of them
key_at_is : (depth : Depth) (weighting : Weighting) (t : ReadText) → stored_key depth (text_parts depth weighting t) ≡ key_at depth weighting t
key_at_is Weights weighting t = refl
key_at_is Identical weighting t = refl

key_is : (k : Keying) (bytes : List ℕ) → stored_key k.settings.depth (parts_of k bytes) ≡ key_of_bytes k bytes
key_is k bytes = key_at_is k.settings.depth k.settings.weighting (read_of k bytes)

-- the law
pub texts_have_parts : TextsHaveParts
texts_have_parts = record { parts = λ asked table properties bytes is utf8. parts_are asked table properties is bytes utf8; key = key_is }

-- the law of ranges, by those of keys with such parts
pub ranges_find_texts : RangesFindTexts
ranges_find_texts asked table properties bytes is utf8 =
    let k : Keying = keying asked table properties in
    let are = parts_are asked table properties is bytes utf8 in
    record {
      levels = λ count firsts some few levels.
          subst (λ (key : List ℕ). InRange (levels_low firsts) (levels_high firsts) key ↔ LevelsBegin firsts (parts_of k bytes).levels) (key_is k bytes)
          (stored_by_levels k.settings.depth k.settings.weighting count firsts (parts_of k bytes) some few levels are);
      letters = λ letters weights.
          subst (λ (key : List ℕ). InRange (letters_low letters) (letters_high letters) key
          ↔ (LettersBegin letters (parts_of k bytes).levels × (LettersBegin (letters ++ 0xFFFF ∷ []) (parts_of k bytes).levels → ⊥))) (key_is k bytes)
          (stored_by_letters k.settings.depth k.settings.weighting letters (parts_of k bytes) weights are);
      compact_levels = λ b count firsts book some few levels.
          compact_by_levels k.settings.depth k.settings.weighting b count firsts (parts_of k bytes) book some few levels are;
      compact_letters = λ b letters book weights.
          compact_by_letters k.settings.depth k.settings.weighting b letters (parts_of k bytes) book weights are;
    }
