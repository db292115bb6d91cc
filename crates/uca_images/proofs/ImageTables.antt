-- The images of all weights of a level as a list.
use Rattle.std.proofs.Common.{◌≡◌, ℕ, zero, suc, ◌+◌, ◌<◌, true, false, List, [], ◌∷◌, ◌++◌, length, get_or, Option, Some, None, nat_eq, ◌⊎◌, ⊎_elim, refl, ap, sym, subst, ◌∙◌, arith, length-append}
use Rattle.std.specs.Option.{unwrap_or}
use Rattle.std.proofs.lemmas.Bool.{cases_lt}
use Rattle.std.proofs.lemmas.Bool.Decides.{nat_tests}
use Rattle.std.proofs.lemmas.List.{get_or_append_left, get_or_default, get_or_push}
use Rattle.uca_weights.specs.declared.Level.{Level}
use Rattle.uca_weights.specs.Maps.{WeightImages, IsRisingMap}
use Rattle.uca_images.specs.inside.ImageTables.{IsImageEntry, AreImagesBelow, IsImageTable}

-- of a rising map no weight but 0 has the image 0
pub image_entry : (level : Level) (images : WeightImages) → IsRisingMap level images → (w : ℕ) → IsImageEntry images w (unwrap_or (images w) 0)
image_entry level images rising zero = rw rising.zero refl
image_entry level images rising (suc w) = go (images (suc w)) refl
  where
    go : (o : Option ℕ) → images (suc w) ≡ o → IsImageEntry images (suc w) (unwrap_or (images (suc w)) 0)
    go None e =
        let apart : nat_eq (suc w) 0 ≡ false = grind (arith, nat_tests) in
        rw (e, apart) refl
    go (Some x) e =
        let above : 0 < x = rising.rising 0 (suc w) 0 x rising.zero e (omega arith) in
        let test : nat_eq x 0 ≡ false = grind (arith, nat_tests) in
        rw (e, test) refl

module _ (images : WeightImages) (table : List ℕ) (is : IsImageTable images table) (w v x : ℕ) (fits : w < 0x1_0000) (same : v ≡ w) (read : x ≡ get_or table v x) where
  -- what the table has for the weight
  there : x ≡ get_or table w 0
  there = read ∙ ap (λ n. get_or table n x) same ∙ get_or_default table w x 0 (omega (arith, is.full))

  -- the weight has no image
  pub no_image : x ≡ 0 → (w ≡ 0 → ⊥) → None ≡ images w
  no_image none some =
      let found : nat_eq (get_or table w 0) 0 ≡ true = grind (arith, nat_tests, there) in
      let apart : nat_eq w 0 ≡ false = grind (arith, nat_tests) in
      sym (is.entries w fits ∙ rw (found, apart) refl)

  -- this is its image
  pub an_image : (x ≡ 0 × w ≡ 0) ⊎ (x ≡ 0 → ⊥) → Some x ≡ images w
  an_image = ⊎_elim
      (λ both.
      let found : nat_eq (get_or table w 0) 0 ≡ true = grind (arith, nat_tests, there, both.0) in
      let test : nat_eq w 0 ≡ true = grind (arith, nat_tests, both.1) in
      sym (is.entries w fits ∙ rw (found, test, both.0) refl))
      (λ some.
      let found : nat_eq (get_or table w 0) 0 ≡ false = grind (arith, nat_tests, there) in
      sym (is.entries w fits ∙ rw (found, sym there) refl))

-- a table with the image of one weight more
pub table_further : (images : WeightImages) (table new : List ℕ) (w x : ℕ) → length table ≡ w → AreImagesBelow w images table → new ≡ table ++ x ∷ []
    → IsImageEntry images w x → (length new ≡ w + 1) × AreImagesBelow (w + 1) images new
table_further images table new w x full so_far is entry = (
  ap length is ∙ length-append table (x ∷ []) ∙ ap (λ n. n + 1) full,
  λ v below. ⊎_elim
      (λ less. subst (IsImageEntry images v) (sym (ap (λ l. get_or l v 0) is ∙ get_or_append_left table (x ∷ []) 0 v (omega (arith, less, full)))) (so_far v less))
      (λ over.
      let same : v ≡ w = omega (arith, below, over) in
      subst (IsImageEntry images v) (sym (ap (λ l. get_or l v 0) is ∙ get_or_push table x 0 v (full ∙ sym same))) (subst (λ n. IsImageEntry images n x) (sym same) entry))
      (cases_lt v w),
)
