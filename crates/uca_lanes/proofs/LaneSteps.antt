-- From the mask of a load of bytes to the bytes.
use Rattle.std.proofs.Common.{◌≡◌, ℕ, ◌+◌, ◌-◌, ◌%◌, ◌^◌, ◌<◌, ◌≤◌, Bool, false, not, cond, List, [], ◌∷◌, map, length, get_or, w8, eqb, eqb-true, refl, sym, ap, ap₂, subst, ◌∙◌, arith, zero, suc, take, inl, inr}
use Rattle.std.specs.List.{prefix_len}
use Rattle.std.proofs.lemmas.Bool.{cases_lt, not-true, not-false, eqb-false}
use Rattle.std.proofs.lemmas.List.Sums.{prefix_len-le-length, prefix_len_passes, prefix_len_stops}
use Rattle.std.proofs.lemmas.Simd.{mask_l-mod, length-chunk, get_or-chunk, length-zip2, get_or-zip2, tops_compared, first_set_mask_l}
use lib.Lanes.{chunk, zip2, mask_l, top}
use Rattle.uca_lanes.specs.inside.Lanes.{IsSameRun}
use Rattle.uca_lanes.specs.inside.Marks.{first_set}

-- ---- Two texts

abbrev differ : ℕ → ℕ → Bool
differ a b = not (eqb a b)

pub itself : (ms : List Bool) → ms ≡ map (λ b. b) ms
itself [] = refl
itself (m ∷ ms) = ap (λ r. m ∷ r) (itself ms)

-- so many bytes are the same in both, before the first that is not
pub same_lanes : (n : ℕ) (left right : List ℕ) (at other same : ℕ) → at + n ≤ length left → other + n ≤ length right → n ≤ 64
    → same ≡ first_set (mask_l (map (top 7) (zip2 (λ a b. cond (not (eqb a b)) 255 0) (chunk at n left) (chunk other n right))) % 2 ^ 64) n
    → IsSameRun left right at other n same
same_lanes n left right at other same room other_room few found = record {
  within = omega (arith, counted, long, prefix_len-le-length not lanes);
  are = λ k below.
      let passes = not-true _ (prefix_len_passes not lanes k false (omega (arith, counted, below))) in
      let inside : k < n = omega (arith, below, counted, long, prefix_len-le-length not lanes) in
      eqb-true _ _ (not-false _ (sym (lane k inside) ∙ passes));
  apart = λ short.
      let stops = not-false _ (subst (λ j. not (get_or lanes j false) ≡ false) (sym counted) (prefix_len_stops not lanes false (omega (arith, short, counted, long)))) in
      eqb-false _ _ (not-true _ (sym (lane same short) ∙ stops));
}
  where
    xs : List ℕ
    xs = chunk at n left

    ys : List ℕ
    ys = chunk other n right

    lanes : List Bool
    lanes = zip2 differ xs ys

    long : length lanes ≡ n
    long = length-zip2 differ xs ys (length-chunk at n left room ∙ sym (length-chunk other n right other_room)) ∙ length-chunk at n left room

    counted : same ≡ prefix_len not lanes
    counted =
        found
        ∙ ap (λ l. first_set (mask_l l % 2 ^ 64) n) (tops_compared w8 differ xs ys)
        ∙ ap (λ m. first_set m n) (mask_l-mod lanes 64 (omega (arith, long)) ∙ ap mask_l (itself lanes))
        ∙ first_set_mask_l (λ b. b) lanes n long few

    lane : (k : ℕ) → k < n → get_or lanes k false ≡ differ (get_or left (at + k) 0) (get_or right (other + k) 0)
    lane k inside =
        get_or-zip2 differ xs ys k 0 0 false (omega (arith, length-chunk at n left room)) (omega (arith, length-chunk other n right other_room))
        ∙ ap₂ differ (get_or-chunk at n left k 0 inside) (get_or-chunk other n right k 0 inside)

-- ---- Beginnings

-- what was the same so far, and some bytes more
pub same_so_far : (left right : List ℕ) (at count same : ℕ) → ((i : ℕ) → i < at → get_or left i 0 ≡ get_or right i 0) → IsSameRun left right at at count same
    → (i : ℕ) → i < at + same → get_or left i 0 ≡ get_or right i 0
same_so_far left right at count same before more i below = elim (cases_lt i at) [ inl first ↦ before i first | inr later ↦ after later ]
  where
    after : at ≤ i → get_or left i 0 ≡ get_or right i 0
    after from =
        let back : at + (i - at) ≡ i = omega arith in
        subst (λ j. get_or left j 0 ≡ get_or right j 0) back (more.are (i - at) (omega (arith, from, below)))

-- all eight are
pub eight_more : (left right : List ℕ) (at same : ℕ) → ((i : ℕ) → i < at → get_or left i 0 ≡ get_or right i 0) → IsSameRun left right at at 8 same → 8 ≤ same
    → (i : ℕ) → i < at + 8 → get_or left i 0 ≡ get_or right i 0
eight_more left right at same before more all i below = same_so_far left right at 8 same before more i (omega (arith, all, below))

-- as a beginning of both
pub same_front : (n : ℕ) (left right : List ℕ) → n ≤ length left → n ≤ length right → ((i : ℕ) → i < n → get_or left i 0 ≡ get_or right i 0)
    → take n left ≡ take n right
same_front zero left right fits fits_too are = refl
same_front (suc n) [] right fits fits_too are = absurd (omega arith)
same_front (suc n) (x ∷ left) [] fits fits_too are = absurd (omega arith)
same_front (suc n) (x ∷ left) (y ∷ right) fits fits_too are =
    ap₂ (λ b bs. b ∷ bs) (are 0 (omega arith)) (same_front n left right (omega (arith, fits)) (omega (arith, fits_too)) (λ i h. are (suc i) (omega (arith, h))))
