-- Where elements become their images under rising maps, keys are put through the maps.
use Rattle.std.proofs.Common.{◌≡◌, ◌≢◌, ⊎_elim, ℕ, zero, suc, ◌+◌, ◌*◌, ◌/◌, ◌%◌, List, [], ◌∷◌, ◌++◌, Some, true, false, nat_eq, map}
use Rattle.std.proofs.Common.{refl, sym, ap, ap₂, subst₂, ◌∙◌, append_assoc, append-nil, arith}
use Rattle.std.proofs.lemmas.Bool.{ne_eqb}
use Rattle.std.specs.Char.{IsScalar}
use Rattle.std.specs.List.{AllByRecursion}
use Rattle.uca_weights.specs.declared.Depth.{Depth}
use Rattle.uca_weights.specs.declared.Depth.TheVariants.{Weights, Identical}
use Rattle.uca_weights.specs.declared.Element.{Element}
use Rattle.uca_weights.specs.declared.Weighting.{Weighting}
use Rattle.uca_weights.specs.declared.Weighting.TheVariants.{NonIgnorable, Shifted}
use Rattle.uca_weights.specs.Maps.{WeightImages, Sends}
use Rattle.uca_order.specs.Levels.{Weights as ElementWeights, weight_at, weighted, level_list, level_lists_from, weight_bytes, level_bytes, levels_bytes, key_bytes}
use Rattle.uca_order.specs.Depths.{ReadText, points_bytes, key_at}
use Rattle.uca_order.proofs.KeyOrder.{AreNonZero, kept_non_zero}
use Rattle.uca_tailorings.specs.Images.{Maps, AreRisingMaps, IsImage, AreImages}
use Rattle.uca_tailorings.specs.Moves.{level_images, AreSent, weight_before, are_points, moved_from, moved_key, KeyMoves, IsKeptKey}
use Rattle.uca_tailorings.proofs.WeightedImages.{lists_sent}

-- ---- Bytes

module _ (maps : Maps) (depth : Depth) where
  -- the bytes of one weight more
  weight_moves : (level more w x : ℕ) (rest done : List ℕ) → w ≢ 0 → Sends (level_images maps level) w x →
      moved_from maps depth level (suc more) rest ≡ Some done →
      moved_from maps depth level (suc more) (weight_bytes w ++ rest) ≡ Some (weight_bytes x ++ done)
  weight_moves level more w x rest done some sent moved =
      let whole : 256 * (w / 256) + w % 256 ≡ w = omega arith in
      let apart : nat_eq w 0 ≡ false = ne_eqb w 0 some in
      rw (whole, apart, sent, moved) refl

  -- the bytes of a level
  level_moves : (level more : ℕ) (ws xs rest done : List ℕ) → AreNonZero ws → AreSent (level_images maps level) ws xs →
      moved_from maps depth level (suc more) rest ≡ Some done →
      moved_from maps depth level (suc more) (level_bytes ws ++ rest) ≡ Some (level_bytes xs ++ done)
  level_moves level more [] [] rest done some sent moved = moved
  level_moves level more [] (x ∷ xs) rest done some sent moved = absurd sent
  level_moves level more (w ∷ ws) [] rest done some sent moved = absurd sent
  level_moves level more (w ∷ ws) (x ∷ xs) rest done some sent moved =
      weight_moves level more w x (level_bytes ws ++ rest) (level_bytes xs ++ done) some.0 sent.0
      (level_moves level more ws xs rest done some.1 sent.1 moved)

  -- the bytes of some levels, and then the end of the key
  levels_move : (n level : ℕ) (ws xs : List ElementWeights) (end : List ℕ) →
      ((l : ℕ) → AreSent (level_images maps l) (level_list l ws) (level_list l xs)) →
      ((l : ℕ) → moved_from maps depth l 1 end ≡ Some end) →
      moved_from maps depth level (suc n) (levels_bytes (level_lists_from level (suc n) ws) ++ end)
      ≡ Some (levels_bytes (level_lists_from level (suc n) xs) ++ end)
  levels_move zero level ws xs end sent ends =
      level_moves level 0 (level_list level ws) (level_list level xs) end end (kept_non_zero (map (weight_at level) ws)) (sent level) (ends level)
  levels_move (suc n) level ws xs end sent ends =
      let later = levels_bytes (level_lists_from (suc level) (suc n) ws) in
      let images = levels_bytes (level_lists_from (suc level) (suc n) xs) in
      subst₂ (λ bytes moved. moved_from maps depth level (suc (suc n)) bytes ≡ Some moved)
      (sym (append_assoc (level_bytes (level_list level ws)) (0 ∷ 0 ∷ later) end))
      (sym (append_assoc (level_bytes (level_list level xs)) (0 ∷ 0 ∷ images) end))
      (level_moves level (suc n) (level_list level ws) (level_list level xs) (0 ∷ 0 ∷ (later ++ end)) (0 ∷ 0 ∷ (images ++ end))
      (kept_non_zero (map (weight_at level) ws)) (sent level)
      (ap (weight_before (Some 0)) (levels_move n (suc level) ws xs end sent ends)))

-- ---- Code points

-- the bytes of scalar values are whole code points
whole_points : (points : List ℕ) → AllByRecursion IsScalar points → are_points (points_bytes points) ≡ true
whole_points [] scalars = refl
whole_points (c ∷ points) scalars =
    let one : 65536 * (c / 65536) + 256 * (c / 256 % 256) + c % 256 ≡ c = omega arith in
    rw (one, scalars.0) (whole_points points scalars.1)

-- ---- Keys

module _ (maps : Maps) (rising : AreRisingMaps maps) (es fs : List Element) (images : AreImages maps es fs) where
  -- the levels of weights, and then the end of the key
  weights_move : (depth : Depth) (weighting : Weighting) (end : List ℕ) → ((l : ℕ) → moved_from maps depth l 1 end ≡ Some end) →
      moved_key maps depth weighting (key_bytes weighting es ++ end) ≡ Some (key_bytes weighting fs ++ end)
  weights_move depth NonIgnorable end ends =
      levels_move maps depth 2 1 (weighted NonIgnorable es) (weighted NonIgnorable fs) end (lists_sent maps rising NonIgnorable es fs images) ends
  weights_move depth Shifted end ends =
      levels_move maps depth 3 1 (weighted Shifted es) (weighted Shifted fs) end (lists_sent maps rising Shifted es fs images) ends

  -- the key at either depth
  key_moves : (points : List ℕ) → AllByRecursion IsScalar points → (depth : Depth) (weighting : Weighting) →
      moved_key maps depth weighting (key_at depth weighting (record { elements = es; points = points }))
      ≡ Some (key_at depth weighting (record { elements = fs; points = points }))
  key_moves points scalars Weights weighting =
      subst₂ (λ bytes moved. moved_key maps Weights weighting bytes ≡ Some moved) (append-nil (key_bytes weighting es))
      (append-nil (key_bytes weighting fs)) (weights_move Weights weighting [] (λ l. refl))
  key_moves points scalars Identical weighting =
      let whole = whole_points points scalars in
      weights_move Identical weighting (0 ∷ 0 ∷ points_bytes points) (λ l. rw whole refl)

-- an element that is its own image has no other
own_image : (maps : Maps) (e f : Element) → IsImage maps e e → IsImage maps e f → e ≡ f
own_image maps e f own image i =
    record {
      primary = same maps.primary e.primary f.primary own.primary image.primary i;
      secondary = same maps.secondary e.secondary f.secondary own.secondary image.secondary i;
      tertiary = same maps.tertiary e.tertiary f.tertiary own.tertiary image.tertiary i;
      mark = image.mark i;
    }
  where
    -- a weight that is its own image has no other
    same : (sends : WeightImages) (w x : ℕ) → Sends sends w w → Sends sends w x → w ≡ x
    same sends w x first second = let one : Some w ≡ Some x = sym first ∙ second in cc

-- and so it is of lists
own_images : (maps : Maps) (es fs : List Element) → AreImages maps es es → AreImages maps es fs → es ≡ fs
own_images maps [] [] own images = refl
own_images maps [] (f ∷ fs) own images = absurd images
own_images maps (e ∷ es) [] own images = absurd images
own_images maps (e ∷ es) (f ∷ fs) own images = ap₂ (λ g gs. g ∷ gs) (own_image maps e f own.0 images.0) (own_images maps es fs own.1 images.1)

-- all that becomes of the keys of images
pub images_move : (maps : Maps) → AreRisingMaps maps → (es fs : List Element) (points : List ℕ) → AllByRecursion IsScalar points →
    AreImages maps es fs → KeyMoves maps (record { elements = es; points = points }) (record { elements = fs; points = points })
images_move maps rising es fs points scalars images =
    record {
      images = images;
      lists = λ weighting. lists_sent maps rising weighting es fs images;
      mended = key_moves maps rising es fs images points scalars;
      stays = λ own depth weighting.
          ap (λ elements. key_at depth weighting (record { elements = elements; points = points })) (sym (own_images maps es fs own images));
    }

-- a key that was kept is the new key
pub kept_is_new : (maps : Maps) (old new : ReadText) → KeyMoves maps old new → (depth : Depth) (weighting : Weighting) (key : List ℕ) →
    IsKeptKey maps depth weighting old key → key ≡ key_at depth weighting new
kept_is_new maps old new moves depth weighting key kept =
    ⊎_elim
    (λ mended. let same : Some key ≡ Some (key_at depth weighting new) = sym mended ∙ moves.mended depth weighting in cc)
    (λ unmoved. unmoved.1 ∙ sym (moves.stays unmoved.0 depth weighting))
    kept
