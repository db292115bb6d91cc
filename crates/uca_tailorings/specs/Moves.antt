-- Keys of texts whose elements become their images under maps of weights.
use Rattle.std.specs.Prelude.{◌≡◌, ◌⊎◌, ℕ, zero, suc, ◌+◌, ◌*◌, Bool, true, false, ◌&&◌, List, [], ◌∷◌, ◌++◌, Option, Some, None, ⊤, option_map, nat_eq, if◌then◌else◌}
use lib.Utf8.{scalar}
use Rattle.uca_weights.specs.declared.Depth.{Depth}
use Rattle.uca_weights.specs.declared.Depth.TheVariants.{Weights, Identical}
use Rattle.uca_weights.specs.declared.Weighting.{Weighting}
use Rattle.uca_weights.specs.Maps.{WeightImages, Sends}
use Rattle.uca_order.specs.Levels.{weighted, level_list, level_count, weight_bytes}
use Rattle.uca_order.specs.Depths.{ReadText, key_at}
use Rattle.uca_tailorings.specs.Images.{Maps, AreImages}

-- ---- Weights of a level

-- the map of each level of a key; that of level 1 serves the fourth level, whose weights are primaries and FFFF
abbrev pub level_images : Maps → ℕ → WeightImages
level_images maps zero = maps.primary
level_images maps (suc zero) = maps.primary
level_images maps (suc (suc zero)) = maps.secondary
level_images maps (suc (suc (suc zero))) = maps.tertiary
level_images maps (suc (suc (suc (suc level)))) = maps.primary

-- the second list has the images of the first, in order
abbrev pub AreSent : WeightImages → List ℕ → List ℕ → Type 0
AreSent images [] [] = ⊤
AreSent images [] (x ∷ xs) = ⊥
AreSent images (w ∷ ws) [] = ⊥
AreSent images (w ∷ ws) (x ∷ xs) = Sends images w x × AreSent images ws xs

-- ---- Stored keys

-- the bytes of a weight before others, where there are both
abbrev pub weight_before : Option ℕ → Option (List ℕ) → Option (List ℕ)
weight_before None bytes = None
weight_before (Some w) bytes = option_map (λ more. weight_bytes w ++ more) bytes

-- A key ends in its last level. At depth `Identical` that is the level of code points, after the levels of weights.
abbrev pub ended : Depth → ℕ → Option (List ℕ)
ended Weights zero = Some []
ended Weights (suc more) = None
ended Identical more = None

-- whole code points: three bytes each, the high one first, and each a Unicode scalar value
abbrev pub are_points : List ℕ → Bool
are_points [] = true
are_points (a ∷ []) = false
are_points (a ∷ b ∷ []) = false
are_points (a ∷ b ∷ c ∷ bytes) = scalar (65536 * a + 256 * b + c) && are_points bytes

-- after the levels of weights there are whole code points, which stay, or nothing at depth `Weights`
abbrev pub after_weights : Depth → List ℕ → Option (List ℕ)
after_weights Weights bytes = None
after_weights Identical bytes = if are_points bytes then Some bytes else None

-- The rest of a key in a level, with this many levels of weights from there on. Each weight is put through the map of its
-- level, and 00 00 leads to the next level. There is no result where a weight has no image, or where the bytes have too few
-- levels, too many, or a single byte at the end. Nor is there one where other bytes than whole code points follow the weights.
abbrev pub moved_from : Maps → Depth → ℕ → ℕ → List ℕ → Option (List ℕ)
moved_from maps depth level zero bytes = after_weights depth bytes
moved_from maps depth level (suc more) [] = ended depth more
moved_from maps depth level (suc more) (a ∷ []) = None
moved_from maps depth level (suc more) (a ∷ b ∷ bytes) =
    if nat_eq (256 * a + b) 0 then weight_before (Some 0) (moved_from maps depth (suc level) more bytes) else
    weight_before (level_images maps level (256 * a + b)) (moved_from maps depth level (suc more) bytes)

-- a stored key put through the maps
abbrev pub moved_key : Maps → Depth → Weighting → List ℕ → Option (List ℕ)
moved_key maps depth weighting key = moved_from maps depth 1 (level_count weighting) key

-- ---- Keys of a text whose elements become their images

pub record KeyMoves (maps : Maps) (old new : ReadText) : Type 0 where
  -- each element becomes its image
  pub images : AreImages maps old.elements new.elements
  -- so at each level the weights of its key are put through the map of the level
  pub lists : (weighting : Weighting) (level : ℕ) →
      AreSent (level_images maps level) (level_list level (weighted weighting old.elements)) (level_list level (weighted weighting new.elements))
  -- the new key is the old one put through the maps
  pub mended : (depth : Depth) (weighting : Weighting) → moved_key maps depth weighting (key_at depth weighting old) ≡ Some (key_at depth weighting new)
  -- the key stays where each weight of the elements is its own image
  pub stays : AreImages maps old.elements old.elements → (depth : Depth) (weighting : Weighting) → key_at depth weighting new ≡ key_at depth weighting old

-- a key that was kept for a text: its old key put through the maps, or its old key, where each weight of its elements is its own
-- image
abbrev pub IsKeptKey : Maps → Depth → Weighting → ReadText → List ℕ → Type 0
IsKeptKey maps depth weighting old key =
    (moved_key maps depth weighting (key_at depth weighting old) ≡ Some key)
    ⊎ (AreImages maps old.elements old.elements × (key ≡ key_at depth weighting old))
