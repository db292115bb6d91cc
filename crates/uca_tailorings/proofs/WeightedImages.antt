-- The weights of images at each level are the images of the weights, under either weighting.
use Rattle.std.proofs.Common.{◌≡◌, ℕ, zero, suc, List, [], ◌∷◌, Bool, true, false, cond, ◌&&◌, map, refl, sym, ap₂}
use Rattle.std.proofs.Common.{subst, arith}
use Rattle.std.specs.Prelude.{⊤}
use Rattle.uca_weights.specs.declared.Element.{Element}
use Rattle.uca_weights.specs.declared.Level.{Level}
use Rattle.uca_weights.specs.declared.Level.TheVariants.{One, Two, Three}
use Rattle.uca_weights.specs.declared.Weighting.{Weighting}
use Rattle.uca_weights.specs.declared.Weighting.TheVariants.{NonIgnorable, Shifted}
use Rattle.uca_weights.specs.Maps.{Sends, IsRisingMap}
use Rattle.uca_order.specs.Levels.{Weights, is_ignorable, is_completely_ignorable, follows_variable, weights_of, weighted_following, weighted}
use Rattle.uca_order.specs.Levels.{weight_at, level_list, lexicographic}
use Rattle.uca_tailorings.specs.Images.{Maps, AreRisingMaps, IsImage, AreImages}
use Rattle.uca_tailorings.specs.Moves.{level_images, AreSent}
use Rattle.uca_tailorings.proofs.RisingMaps.{sent_zero, sent_order, sent_filter}

-- each weight is put through the map of its level
abbrev pub AreSentWeights : Maps → Weights → Weights → Type 0
AreSentWeights maps ws xs = (level : ℕ) → Sends (level_images maps level) (weight_at level ws) (weight_at level xs)

-- each weight of each element is put through the map of its level
abbrev pub AreAllSent : Maps → List Weights → List Weights → Type 0
AreAllSent maps [] [] = ⊤
AreAllSent maps [] (x ∷ xs) = ⊥
AreAllSent maps (w ∷ ws) [] = ⊥
AreAllSent maps (w ∷ ws) (x ∷ xs) = AreSentWeights maps w x × AreAllSent maps ws xs

-- the weights of an element by what is asked of it
abbrev shifted_by : Bool → Bool → Bool → ℕ → ℕ → ℕ → Weights
shifted_by variable ignorable empty primary secondary tertiary =
    cond variable (0 ∷ 0 ∷ 0 ∷ primary ∷ [])
    (cond ignorable (0 ∷ 0 ∷ 0 ∷ 0 ∷ []) (primary ∷ secondary ∷ tertiary ∷ cond empty 0 0xFFFF ∷ []))

module _ (maps : Maps) (rising : AreRisingMaps maps) where
  -- three weights
  three_sent : (a b c x y z : ℕ) → Sends maps.primary a x → Sends maps.secondary b y → Sends maps.tertiary c z →
      AreSentWeights maps (a ∷ b ∷ c ∷ []) (x ∷ y ∷ z ∷ [])
  three_sent a b c x y z first second third zero = rising.primary.zero
  three_sent a b c x y z first second third (suc zero) = first
  three_sent a b c x y z first second third (suc (suc zero)) = second
  three_sent a b c x y z first second third (suc (suc (suc zero))) = third
  three_sent a b c x y z first second third (suc (suc (suc (suc level)))) = rising.primary.zero

  -- four weights
  four_sent : (a b c d x y z w : ℕ) → Sends maps.primary a x → Sends maps.secondary b y → Sends maps.tertiary c z → Sends maps.primary d w →
      AreSentWeights maps (a ∷ b ∷ c ∷ d ∷ []) (x ∷ y ∷ z ∷ w ∷ [])
  four_sent a b c d x y z w first second third fourth zero = rising.primary.zero
  four_sent a b c d x y z w first second third fourth (suc zero) = first
  four_sent a b c d x y z w first second third fourth (suc (suc zero)) = second
  four_sent a b c d x y z w first second third fourth (suc (suc (suc zero))) = third
  four_sent a b c d x y z w first second third fourth (suc (suc (suc (suc zero)))) = fourth
  four_sent a b c d x y z w first second third fourth (suc (suc (suc (suc (suc level))))) = rising.primary.zero

  -- 0 and the greatest weight stay
  last_sent : (empty : Bool) → Sends maps.primary (cond empty 0 0xFFFF) (cond empty 0 0xFFFF)
  last_sent true = rising.primary.zero
  last_sent false = rising.primary.fixed.0 0xFFFF (omega arith) (omega arith)

  -- shifted weights
  shifted_sent : (variable ignorable empty : Bool) (a b c x y z : ℕ) → Sends maps.primary a x → Sends maps.secondary b y → Sends maps.tertiary c z →
      AreSentWeights maps (shifted_by variable ignorable empty a b c) (shifted_by variable ignorable empty x y z)
  shifted_sent true ignorable empty a b c x y z first second third =
      four_sent 0 0 0 a 0 0 0 x rising.primary.zero rising.secondary.zero rising.tertiary.zero first
  shifted_sent false true empty a b c x y z first second third =
      four_sent 0 0 0 0 0 0 0 0 rising.primary.zero rising.secondary.zero rising.tertiary.zero rising.primary.zero
  shifted_sent false false empty a b c x y z first second third =
      four_sent a b c (cond empty 0 0xFFFF) x y z (cond empty 0 0xFFFF) first second third (last_sent empty)

  module _ (e f : Element) (image : IsImage maps e f) where
    -- an image has a primary where the element has one
    image_ignorable : is_ignorable f ≡ is_ignorable e
    image_ignorable = sent_zero One maps.primary rising.primary e.primary f.primary image.primary

    -- and some weight where the element has some
    image_empty : is_completely_ignorable f ≡ is_completely_ignorable e
    image_empty =
        ap₂ (λ a b. a && b)
        (ap₂ (λ a b. a && b) image_ignorable (sent_zero Two maps.secondary rising.secondary e.secondary f.secondary image.secondary))
        (sent_zero Three maps.tertiary rising.tertiary e.tertiary f.tertiary image.tertiary)

    -- the weights of an image
    weights_sent : (weighting : Weighting) (after : Bool) → AreSentWeights maps (weights_of weighting after e) (weights_of weighting after f)
    weights_sent NonIgnorable after =
        three_sent e.primary e.secondary e.tertiary f.primary f.secondary f.tertiary image.primary image.secondary image.tertiary
    weights_sent Shifted after =
        let same : shifted_by e.mark (is_ignorable e && after) (is_completely_ignorable e) f.primary f.secondary f.tertiary ≡ weights_of Shifted after f =
        λ i. shifted_by (image.mark i) (sym image_ignorable i && after) (sym image_empty i) f.primary f.secondary f.tertiary in
        subst (AreSentWeights maps (weights_of Shifted after e)) same
        (shifted_sent e.mark (is_ignorable e && after) (is_completely_ignorable e) e.primary e.secondary e.tertiary f.primary f.secondary f.tertiary
        image.primary image.secondary image.tertiary)

  -- images follow a variable element where the elements do
  follows_same : (es fs : List Element) → AreImages maps es fs → follows_variable fs ≡ follows_variable es
  follows_same [] [] images = refl
  follows_same [] (f ∷ fs) images = absurd images
  follows_same (e ∷ es) [] images = absurd images
  follows_same (e ∷ es) (f ∷ fs) images =
      λ i. cond (image_ignorable e f images.0 i) (follows_same es fs images.1 i) (sym images.0.mark i)

  -- the weights of images, after images
  following_sent : (weighting : Weighting) (before before_images es fs : List Element) → AreImages maps before before_images → AreImages maps es fs →
      AreAllSent maps (weighted_following weighting before es) (weighted_following weighting before_images fs)
  following_sent weighting before before_images [] [] earlier images = tt
  following_sent weighting before before_images [] (f ∷ fs) earlier images = absurd images
  following_sent weighting before before_images (e ∷ es) [] earlier images = absurd images
  following_sent weighting before before_images (e ∷ es) (f ∷ fs) earlier images = (
    subst (λ after. AreSentWeights maps (weights_of weighting (follows_variable before) e) (weights_of weighting after f))
        (sym (follows_same before before_images earlier)) (weights_sent e f images.0 weighting (follows_variable before)),
    following_sent weighting (e ∷ before) (f ∷ before_images) es fs (images.0, earlier) images.1,
  )

  -- the weights of a level, one for each element
  weights_at_sent : (level : ℕ) (ws xs : List Weights) → AreAllSent maps ws xs →
      AreSent (level_images maps level) (map (weight_at level) ws) (map (weight_at level) xs)
  weights_at_sent level [] [] sent = tt
  weights_at_sent level [] (x ∷ xs) sent = absurd sent
  weights_at_sent level (w ∷ ws) [] sent = absurd sent
  weights_at_sent level (w ∷ ws) (x ∷ xs) sent = (sent.0 level, weights_at_sent level ws xs sent.1)

  -- the map of each level rises
  rising_at : (level : ℕ) → (l : Level) × IsRisingMap l (level_images maps level)
  rising_at zero = (One, rising.primary)
  rising_at (suc zero) = (One, rising.primary)
  rising_at (suc (suc zero)) = (Two, rising.secondary)
  rising_at (suc (suc (suc zero))) = (Three, rising.tertiary)
  rising_at (suc (suc (suc (suc level)))) = (One, rising.primary)

  -- so the level lists of images have the images of the weights
  pub lists_sent : (weighting : Weighting) (es fs : List Element) → AreImages maps es fs → (level : ℕ) →
      AreSent (level_images maps level) (level_list level (weighted weighting es)) (level_list level (weighted weighting fs))
  lists_sent weighting es fs images level =
      let at = rising_at level in
      sent_filter at.0 (level_images maps level) at.1 (map (weight_at level) (weighted weighting es)) (map (weight_at level) (weighted weighting fs))
      (weights_at_sent level (weighted weighting es) (weighted weighting fs) (following_sent weighting [] [] es fs tt images))

  -- and compare as those of the elements
  pub images_order : (weighting : Weighting) (ls rs xs ys : List Element) → AreImages maps ls xs → AreImages maps rs ys → (level : ℕ) →
      lexicographic (level_list level (weighted weighting xs)) (level_list level (weighted weighting ys))
      ≡ lexicographic (level_list level (weighted weighting ls)) (level_list level (weighted weighting rs))
  images_order weighting ls rs xs ys left right level =
      let at = rising_at level in
      sent_order at.0 (level_images maps level) at.1 (level_list level (weighted weighting ls)) (level_list level (weighted weighting rs))
      (level_list level (weighted weighting xs)) (level_list level (weighted weighting ys)) (lists_sent weighting ls xs left level)
      (lists_sent weighting rs ys right level)
