-- Weights keep their place in the image of a book, if their offsets stay.
use Rattle.std.proofs.Common.{◌≡◌, ◌⊎◌, inl, inr, ℕ, zero, suc, ◌-◌, ◌/◌, ◌%◌, ◌<◌, ◌≤◌, List, [], ◌∷◌, Bool, true, false, cond, length, map, max, nat_le, nat_lt, unwrap_or, Option, Some, None, refl, ap, sym, subst, ◌∙◌, arith}
use Rattle.std.specs.List.{AllByRecursion}
use Rattle.std.specs.Ordering.{nat_cmp}
use Rattle.std.specs.declared.cmp.Ordering.TheVariants.{Less, Greater}
use Rattle.std.proofs.lemmas.Bool.{cases_lt}
use Rattle.std.proofs.lemmas.Bool.Decides.{nat_tests}
use Rattle.uca_order.proofs.KeyOrder.{cmp_less}
use Rattle.uca_weights.specs.declared.Level.TheVariants.{One}
use Rattle.uca_weights.specs.Maps.{WeightImages, Sends, IsRisingMap}
use Rattle.uca_books.specs.Books.{RiseAfter}
use Rattle.uca_compact.specs.Forms.{Form, first_cell, letters_form, variables_form}
use Rattle.uca_compact.specs.CompactKeys.{offset_bytes, cell}
use Rattle.uca_compact.proofs.OnlyCells.{same_some}
use Rattle.uca_tailorings.specs.Moves.{AreSent}
use Rattle.uca_book_images.specs.BookImages.{last_image, start_image, starts_image}
use Rattle.uca_book_images.specs.KeptKeys.{cell_by, KeepsPlace}
use Rattle.uca_book_images.specs.KeptPlaces.{StartsBecomeTheirImages, cell_start, cell_end, KeepsOffset, RisingMapsKeepPlaces}

-- ---- Starts that have images

starts_sent : (images : WeightImages) (greatest before : ℕ) (starts new_starts : List ℕ) → AreSent images starts new_starts → RiseAfter before new_starts
    → AllByRecursion (λ w. w ≤ greatest) new_starts → starts_image images greatest before starts ≡ new_starts
starts_sent images greatest before [] [] sent rise fit = refl
starts_sent images greatest before [] (x ∷ xs) sent rise fit = absurd sent
starts_sent images greatest before (s ∷ starts) [] sent rise fit = absurd sent
starts_sent images greatest before (s ∷ starts) (x ∷ xs) sent rise fit =
    let own : start_image images s ≡ x = ap (λ (o : Option ℕ). unwrap_or o (suc (last_image images s))) sent.0 in
    let after : max (suc before) x ≡ x = omega (arith, rise.0) in
    let next : max (suc before) (start_image images s) ≡ x = ap (max (suc before)) own ∙ after in
    let fits : x ≤ greatest = fit.0 in
    let test : nat_le x greatest ≡ true = grind (arith, nat_tests) in
    ap (λ (n : ℕ). cond (nat_le n greatest) (n ∷ starts_image images greatest n starts) []) next
    ∙ ap (λ (t : Bool). cond t (x ∷ starts_image images greatest x starts) []) test
    ∙ ap (λ (ys : List ℕ). x ∷ ys) (starts_sent images greatest x starts xs sent.1 rise.1 fit.1)

-- the law
pub starts_become_their_images : StartsBecomeTheirImages
starts_become_their_images images greatest starts new_starts sent rise fit = starts_sent images greatest 1 starts new_starts sent rise fit

-- ---- Offsets

-- as many bytes have the same offset, by the tests on both widths
offset_by : (o high low : ℕ) (a b c d : Bool) → length {A = ℕ} (cond a [] (cond b (0 ∷ []) (0 ∷ 0 ∷ []))) ≡ length {A = ℕ} (cond c [] (cond d (0 ∷ []) (0 ∷ 0 ∷ [])))
    → cond a [] (cond b (o ∷ []) (high ∷ low ∷ [])) ≡ cond c [] (cond d (o ∷ []) (high ∷ low ∷ []))
offset_by o high low true b true d same = refl
offset_by o high low true b false true same = absurd (omega (arith, same))
offset_by o high low true b false false same = absurd (omega (arith, same))
offset_by o high low false true true d same = absurd (omega (arith, same))
offset_by o high low false true false true same = refl
offset_by o high low false true false false same = absurd (omega (arith, same))
offset_by o high low false false true d same = absurd (omega (arith, same))
offset_by o high low false false false true same = absurd (omega (arith, same))
offset_by o high low false false false false same = refl

offset_kept : (width new_width offset : ℕ) → length (offset_bytes width 0) ≡ length (offset_bytes new_width 0) → offset_bytes width offset ≡ offset_bytes new_width offset
offset_kept width new_width offset same =
    offset_by offset (offset / 256) (offset % 256) (nat_lt width 2) (nat_lt width 257) (nat_lt new_width 2) (nat_lt new_width 257) same

-- ---- Cells

-- a weight below a start has its image below that of the start
test_sent : (images : WeightImages) → IsRisingMap One images → (w x s y : ℕ) → Sends images w x → Sends images s y → nat_lt w s ≡ nat_lt x y
test_sent images rising w x s y sent started = elim (cases_lt w s) [
  | inl less ↦
      let below : x < y = rising.rising w s x y sent started less in
      let one : nat_lt w s ≡ true = grind (arith, nat_tests) in
      let two : nat_lt x y ≡ true = grind (arith, nat_tests) in
      one ∙ sym two
  | inr more ↦
      let above : y ≤ x = not_below images rising w x s y sent started more (cases_lt s w) in
      let one : nat_lt w s ≡ false = grind (arith, nat_tests) in
      let two : nat_lt x y ≡ false = grind (arith, nat_tests) in
      one ∙ sym two
]
  where
    not_below : (images : WeightImages) → IsRisingMap One images → (w x s y : ℕ) → Sends images w x → Sends images s y → s ≤ w → (s < w) ⊎ (w ≤ s) → y ≤ x
    not_below images rising w x s y sent started more (inl less) = let up = rising.rising s w y x started sent less in omega arith
    not_below images rising w x s y sent started more (inr least) =
        let same : w ≡ s = omega arith in
        let one : y ≡ x = same_some y x (sym started ∙ ap images (sym same) ∙ sent) in
        omega arith

-- the image of a weight below a start is not above the last image below the start
image_below : (images : WeightImages) → IsRisingMap One images → (w x n : ℕ) → Sends images w x → w < n → x ≤ last_image images n
image_below images rising w x zero sent less = absurd (omega arith)
image_below images rising w x (suc m) sent less = elim (cases_lt w m) [
  | inl before ↦ by (λ less_still. image_below images rising w x m sent less_still) (images m) refl before
  | inr last ↦
      let same : w ≡ m = omega arith in
      let own : images m ≡ Some x = ap images (sym same) ∙ sent in
      let is : unwrap_or (images m) (last_image images m) ≡ x = ap (λ (o : Option ℕ). unwrap_or o (last_image images m)) own in
      omega (arith, is)
]
  where
    by : (w < m → x ≤ last_image images m) → (o : Option ℕ) → images m ≡ o → w < m → x ≤ unwrap_or o (last_image images m)
    by earlier None none before = earlier before
    by earlier (Some y) found before = let up = rising.rising w m x y sent found before in omega (arith, up)

-- and that of a weight from the start on is above it
image_above : (images : WeightImages) → IsRisingMap One images → (w x n : ℕ) → 0 < x → Sends images w x → n ≤ w → last_image images n < x
image_above images rising w x zero some sent more = some
image_above images rising w x (suc m) some sent more = by (image_above images rising w x m some sent (omega arith)) (images m) refl
  where
    by : last_image images m < x → (o : Option ℕ) → images m ≡ o → unwrap_or o (last_image images m) < x
    by earlier None none = earlier
    by earlier (Some y) found = rising.rising m w y x found sent (omega arith)

-- so it is with what a start becomes
test_start : (images : WeightImages) → IsRisingMap One images → (w x s : ℕ) → 0 < x → Sends images w x → nat_lt w s ≡ nat_lt x (start_image images s)
test_start images rising w x s some sent = by (images s) refl
  where
    by : (o : Option ℕ) → images s ≡ o → nat_lt w s ≡ nat_lt x (unwrap_or o (suc (last_image images s)))
    by (Some y) found = test_sent images rising w x s y sent found
    by None none = elim (cases_lt w s) [
      | inl less ↦
          let below : x ≤ last_image images s = image_below images rising w x s sent less in
          let one : nat_lt w s ≡ true = grind (arith, nat_tests) in
          let two : nat_lt x (suc (last_image images s)) ≡ true = grind (arith, nat_tests) in
          one ∙ sym two
      | inr more ↦
          let above : last_image images s < x = image_above images rising w x s some sent more in
          let one : nat_lt w s ≡ false = grind (arith, nat_tests) in
          let two : nat_lt x (suc (last_image images s)) ≡ false = grind (arith, nat_tests) in
          one ∙ sym two
    ]

-- the offsets of a weight and of a new one in their cells are one, and have as many bytes
record HasOffset (w x start end new_start new_end : ℕ) : Type 0 where
  offset : w - start ≡ x - new_start
  bytes : length (offset_bytes (end - start) 0) ≡ length (offset_bytes (new_end - new_start) 0)

-- cells from one on
module _ (images : WeightImages) (rising : IsRisingMap One images) (w x : ℕ) (some : 0 < x) (sent : Sends images w x) where
  -- the first cell
  here : (number start end new_start new_end : ℕ) → HasOffset w x start end new_start new_end
      → number ∷ offset_bytes (end - start) (w - start) ≡ number ∷ offset_bytes (new_end - new_start) (x - new_start)
  here number start end new_start new_end h =
      ap (λ (o : ℕ). number ∷ offset_bytes (end - start) o) h.offset
      ∙ ap (λ (ys : List ℕ). number ∷ ys) (offset_kept (end - start) (new_end - new_start) (x - new_start) h.bytes)

  -- any cell
  cell_sent : (number start new_start : ℕ) (later : List ℕ) (end new_end : ℕ)
      → HasOffset w x (cell_start start later w) (cell_end later end w) (cell_start new_start (map (start_image images) later) x) (cell_end (map (start_image images) later) new_end x)
      → cell number start later end w ≡ cell number new_start (map (start_image images) later) new_end x
  cell_sent number start new_start [] end new_end h = here number start end new_start new_end h
  cell_sent number start new_start (s ∷ later) end new_end h =
      by (nat_lt w s) (nat_lt x (start_image images s)) (test_start images rising w x s some sent)
      (λ more. cell_sent (suc number) s (start_image images s) later end new_end more) h
    where
      by : (t u : Bool) → t ≡ u
          → (HasOffset w x (cell_start s later w) (cell_end later end w) (cell_start (start_image images s) (map (start_image images) later) x) (cell_end (map (start_image images) later) new_end x)
          → cell (suc number) s later end w ≡ cell (suc number) (start_image images s) (map (start_image images) later) new_end x)
          → HasOffset w x (cond t start (cell_start s later w)) (cond t s (cell_end later end w)) (cond u new_start (cell_start (start_image images s) (map (start_image images) later) x)) (cond u (start_image images s) (cell_end (map (start_image images) later) new_end x))
          → cond t (number ∷ offset_bytes (s - start) (w - start)) (cell (suc number) s later end w)
          ≡ cond u (number ∷ offset_bytes ((start_image images s) - new_start) (x - new_start)) (cell (suc number) (start_image images s) (map (start_image images) later) new_end x)
      by true true same known h = here number start s new_start (start_image images s) h
      by true false same known h = absurd (cc)
      by false true same known h = absurd (cc)
      by false false same known h = known h

-- ---- Weights

-- a greater weight
greater_place : (f g : Form) (w x : ℕ) → nat_cmp w f.common ≡ Greater → nat_cmp x g.common ≡ Greater
    → cell (first_cell f) (suc f.common) f.greater 65536 w ≡ cell (first_cell g) (suc g.common) g.greater 65536 x → KeepsPlace f g w x
greater_place f g w x one two same =
    record { side = one ∙ sym two; place = ap (cell_by f w) one ∙ same ∙ ap (cell_by g x) (sym two) }

-- a lesser one
lesser_place : (f g : Form) (w x : ℕ) → nat_cmp w f.common ≡ Less → nat_cmp x g.common ≡ Less
    → cell 0 1 f.lesser f.common w ≡ cell 0 1 g.lesser g.common x → KeepsPlace f g w x
lesser_place f g w x one two same =
    record { side = one ∙ sym two; place = ap (cell_by f w) one ∙ same ∙ ap (cell_by g x) (sym two) }

above_none : (w : ℕ) → 0 < w → nat_cmp w 0 ≡ Greater
above_none w some = grind (arith, nat_tests)

below_common : (w : ℕ) → w < 0xFFFF → nat_cmp w 0xFFFF ≡ Less
below_common w less = cmp_less w 0xFFFF less

-- the law
pub rising_maps_keep_places : RisingMapsKeepPlaces
rising_maps_keep_places images book new_book rising =
    record {
      letters = λ starts later w x some sent offset.
          let above : 0 < x = rising.rising 0 w 0 x rising.zero sent some in
          let kept : KeepsOffset 0x1_0000 book.letters (map (start_image images) book.letters) w x =
          subst (λ (l : List ℕ). KeepsOffset 0x1_0000 book.letters l w x) starts offset in
          greater_place (letters_form book later) (letters_form new_book later) w x (above_none w some) (above_none x above)
          (cell_sent images rising w x above sent (first_cell (letters_form book later)) 1 1 book.letters 65536 65536
          (record { offset = kept.offset; bytes = kept.bytes })
          ∙ ap (λ (l : List ℕ). cell (first_cell (letters_form book later)) 1 l 65536 x) (sym starts));
      variables = λ starts later w x some less sent offset.
          let stays : Sends images 0xFFFF 0xFFFF = rising.fixed.0 0xFFFF (omega arith) (omega arith) in
          let above : 0 < x = rising.rising 0 w 0 x rising.zero sent some in
          let below : x < 0xFFFF = rising.rising w 0xFFFF x 0xFFFF sent stays less in
          let kept : KeepsOffset 0xFFFF book.variables (map (start_image images) book.variables) w x =
          subst (λ (l : List ℕ). KeepsOffset 0xFFFF book.variables l w x) starts offset in
          lesser_place (variables_form book later) (variables_form new_book later) w x (below_common w less) (below_common x below)
          (cell_sent images rising w x above sent 0 1 1 book.variables 0xFFFF 0xFFFF
          (record { offset = kept.offset; bytes = kept.bytes })
          ∙ ap (λ (l : List ℕ). cell 0 1 l 0xFFFF x) (sym starts));
    }
