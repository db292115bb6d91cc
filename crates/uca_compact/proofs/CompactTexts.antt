-- Under each table the key of a text of UTF-8 has parts, and its compact key is the one of these.
use Rattle.std.proofs.Common.{◌≡◌, ℕ, List, true, Some, option_map, refl, ap, ◌∙◌}
use Rattle.std.specs.List.{AllByRecursion}
use Rattle.std.specs.Str.{IsUtf8, all_scalars}
use Rattle.uca_weights.specs.declared.Asked.{Asked}
use Rattle.uca_weights.specs.declared.Depth.{Depth}
use Rattle.uca_weights.specs.declared.Depth.TheVariants.{Weights, Identical}
use Rattle.uca_weights.specs.declared.Weighting.{Weighting}
use Rattle.uca_values.specs.Content.{TableContent, Properties, IsTable, Fits}
use Rattle.uca_order.specs.Depths.{ReadText}
use Rattle.uca_order.specs.Keyings.{Keying, keying, read_of, key_of_bytes}
use Rattle.uca_order.proofs.Levels.{level_lists_fit}
use Rattle.uca_order.proofs.Keyings.{bytes_fit, own_scalars}
use Rattle.uca_books.specs.Books.{BookContent}
use Rattle.uca_compact.specs.CompactKeys.{KeyParts, text_parts, compact_key, AreParts}
use Rattle.uca_compact.specs.CompactTexts.{parts_of, compact_of_bytes}
use Rattle.uca_compact.specs.StoredParts.{IsCompactOf}
use Rattle.uca_compact.proofs.TextKeys.{text_is_read}

-- levels of weights, and code points
parts_at : (depth : Depth) (weighting : Weighting) (t : ReadText) → AllByRecursion Fits t.elements → all_scalars t.points ≡ true
    → AreParts depth weighting (text_parts depth weighting t)
parts_at Weights weighting t es ps = record { levels = level_lists_fit weighting t.elements es; points = refl; level = refl }
parts_at Identical weighting t es ps = record { levels = level_lists_fit weighting t.elements es; points = ps; level = refl }

module _ (asked : Asked) (table : TableContent) (properties : Properties) (is : IsTable table) (bytes : List ℕ) (utf8 : IsUtf8 bytes) where
  abbrev k : Keying
  k = keying asked table properties

  -- the parts of its key
  pub parts_are : AreParts k.settings.depth k.settings.weighting (parts_of k bytes)
  parts_are = parts_at k.settings.depth k.settings.weighting (read_of k bytes) (bytes_fit asked table properties is bytes utf8) (own_scalars k bytes utf8)

  -- what is made of its key by a book
  pub compact_is : (b : BookContent) → IsCompactOf k.settings.depth k.settings.weighting b (key_of_bytes k bytes) (compact_of_bytes b k bytes)
  compact_is b =
      ap (option_map (compact_key k.settings.depth k.settings.weighting b)) (text_is_read k.settings.depth k.settings.weighting (read_of k bytes) parts_are)
