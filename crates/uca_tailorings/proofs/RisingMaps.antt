-- Maps that rise and keep 0 keep the order of lists of weights.
use Rattle.std.proofs.Common.{◌≡◌, ℕ, zero, suc, List, [], ◌∷◌, Bool, true, false, cond, not, nat_eq, filter, Some, refl, sym, ap, ap₂}
use Rattle.std.proofs.Common.{◌∙◌, arith}
use Rattle.std.proofs.lemmas.Bool.Decides.{nat_tests}
use Rattle.std.specs.Ordering.{nat_cmp, ordering_then}
use Rattle.uca_weights.specs.declared.Level.{Level}
use Rattle.uca_weights.specs.Maps.{WeightImages, Sends, IsRisingMap}
use Rattle.uca_order.specs.Levels.{lexicographic}
use Rattle.uca_order.proofs.KeyOrder.{same_cmp}
use Rattle.uca_tailorings.specs.Moves.{AreSent}

module _ (level : Level) (images : WeightImages) (rising : IsRisingMap level images) where
  -- a weight has one image
  pub one_image : (w x y : ℕ) → Sends images w x → Sends images w y → x ≡ y
  one_image w x y first second = let same : Some x ≡ Some y = sym first ∙ second in cc

  -- weights compare as their images
  pub sent_cmp : (v w x y : ℕ) → Sends images v x → Sends images w y → nat_cmp x y ≡ nat_cmp v w
  sent_cmp v w x y first second =
      sym (same_cmp v w x y
      (λ less. rising.rising v w x y first second less)
      (λ same. let again : Sends images v y = ap images same ∙ second in one_image v x y first again)
      (λ greater. rising.rising w v y x second first greater))

  -- an image is 0 where the weight is
  pub sent_zero : (w x : ℕ) → Sends images w x → nat_eq x 0 ≡ nat_eq w 0
  sent_zero w x sent = by_weight w sent
    where
      -- by the weight
      by_weight : (v : ℕ) → Sends images v x → nat_eq x 0 ≡ nat_eq v 0
      by_weight zero sent = ap (λ n. nat_eq n 0) (one_image 0 x 0 sent rising.zero)
      by_weight (suc v) sent = let above = rising.rising 0 (suc v) 0 x rising.zero sent (omega arith) in grind (arith, nat_tests)

  -- lists of weights compare as the lists of their images
  pub sent_order : (vs ws xs ys : List ℕ) → AreSent images vs xs → AreSent images ws ys → lexicographic xs ys ≡ lexicographic vs ws
  sent_order [] [] [] [] first second = refl
  sent_order [] (w ∷ ws) [] [] first second = absurd second
  sent_order [] [] [] (y ∷ ys) first second = absurd second
  sent_order [] (w ∷ ws) [] (y ∷ ys) first second = refl
  sent_order [] ws (x ∷ xs) ys first second = absurd first
  sent_order (v ∷ vs) ws [] ys first second = absurd first
  sent_order (v ∷ vs) [] (x ∷ xs) [] first second = refl
  sent_order (v ∷ vs) [] (x ∷ xs) (y ∷ ys) first second = absurd second
  sent_order (v ∷ vs) (w ∷ ws) (x ∷ xs) [] first second = absurd second
  sent_order (v ∷ vs) (w ∷ ws) (x ∷ xs) (y ∷ ys) first second =
      ap₂ ordering_then (sent_cmp v w x y first.0 second.0) (sent_order vs ws xs ys first.1 second.1)

  -- one weight more, which is left out where it is 0
  kept_step : (w x : ℕ) (ws xs : List ℕ) (ignorable : Bool) → Sends images w x → AreSent images ws xs → nat_eq w 0 ≡ ignorable → nat_eq x 0 ≡ ignorable →
      AreSent images (cond (not (nat_eq w 0)) (w ∷ ws) ws) (cond (not (nat_eq x 0)) (x ∷ xs) xs)
  kept_step w x ws xs true sent rest first second = rw (first, second) rest
  kept_step w x ws xs false sent rest first second = rw (first, second) (sent, rest)

  -- the weights other than 0 of a list have the images of the other's
  pub sent_filter : (ws xs : List ℕ) → AreSent images ws xs → AreSent images (filter (λ w. not (nat_eq w 0)) ws) (filter (λ w. not (nat_eq w 0)) xs)
  sent_filter [] [] sent = tt
  sent_filter [] (x ∷ xs) sent = absurd sent
  sent_filter (w ∷ ws) [] sent = absurd sent
  sent_filter (w ∷ ws) (x ∷ xs) sent =
      kept_step w x (filter (λ v. not (nat_eq v 0)) ws) (filter (λ v. not (nat_eq v 0)) xs) (nat_eq w 0) sent.0 (sent_filter ws xs sent.1) refl
      (sent_zero w x sent.0)
