-- From marks of pairs to the pairs.
use Rattle.std.proofs.Common.{◌≡◌, ◌≢◌, ℕ, zero, suc, ◌+◌, ◌-◌, ◌*◌, ◌/◌, ◌%◌, ◌^◌, ◌<◌, ◌≤◌, Bool, true, false, not, cond, List, [], ◌∷◌, ◌++◌, map, length, take, drop, get_or, replicate, min, max, nat_eq, nat_lt, eqb-true, w8, w16, Fits, refl, sym, ap, ap₂, subst, ◌∙◌, arith}
use Rattle.std.specs.Simd.Lanes.{mask_l, number_l, digits_l, chunk}
use Rattle.std.proofs.lemmas.Simd.{get_or_wider, bitmask_splat, first_set_mask_l, Each1-get_or, Each1-weaker, get_or-chunk}
use Rattle.std.proofs.lemmas.List.{get_or-map, get_or-drop, length-map, length-drop, length-append, get_or_append_left, get_or-append_right}
use Rattle.std.proofs.lemmas.Bool.Decides.{nat_tests}
use Rattle.std.specs.List.{prefix_len}
use Rattle.std.specs.Int.{w64, trailing_zeros}
use Rattle.std.specs.Prelude.{◌==◌, if◌then◌else◌}
use Rattle.std.proofs.lemmas.Bool.{not-true, not-false, eqb-false}
use Rattle.std.proofs.lemmas.List.Sums.{prefix_len_passes, prefix_len_stops}
use lib.Lanes.{zip2, top, Each1}
use Rattle.uca_lanes.specs.inside.Marks.{first_set}
use Rattle.uca_lanes.specs.Pairs.{pair_at, AreMarks, MarksPairs, IsPairRun}
use Rattle.uca_lanes.proofs.LaneSteps.{itself}
use Rattle.uca_lanes.proofs.MaskSteps.{mask-drop, mask-append}

-- ---- Eight pairs

eight_digits : (n : ℕ) → length (digits_l 65536 8 n) ≡ 8
eight_digits n = refl

-- two bytes, the low one first
low_first : (bytes : List ℕ) (k : ℕ) → number_l 256 (chunk (2 * k) 2 bytes) ≡ get_or bytes (2 * k) 0 + 256 * get_or bytes (2 * k + 1) 0
low_first bytes k = two (drop (2 * k) bytes) ∙ ap₂ (λ (a b : ℕ). a + 256 * b) (get_or-drop (2 * k) bytes 0 0 ∙ here) (get_or-drop (2 * k) bytes 1 0)
  where
    here : get_or bytes (2 * k + 0) 0 ≡ get_or bytes (2 * k) 0
    here = let e : 2 * k + 0 ≡ 2 * k = omega arith in ap (λ (n : ℕ). get_or bytes n 0) e

    two : (xs : List ℕ) → number_l 256 (take 2 xs) ≡ get_or xs 0 0 + 256 * get_or xs 1 0
    two [] = omega arith
    two (a ∷ []) = omega arith
    two (a ∷ b ∷ xs) = omega arith

-- turned numbers are the same exactly where the numbers are
turned_test : (a b number : ℕ) → a < 256 → b < 256 → number < 65536
    → nat_eq (a + 256 * b) (number % 256 * 256 + number / 256) ≡ nat_eq (256 * a + b) number
turned_test a b number high low small = by_test (nat_eq (256 * a + b) number) refl
  where
    by_test : (t : Bool) → nat_eq (256 * a + b) number ≡ t → nat_eq (a + 256 * b) (number % 256 * 256 + number / 256) ≡ nat_eq (256 * a + b) number
    by_test true is =
        let same : 256 * a + b ≡ number = grind (arith, nat_tests) in
        let turned : a + 256 * b ≡ number % 256 * 256 + number / 256 = omega (arith, same, high, low) in
        let test : nat_eq (a + 256 * b) (number % 256 * 256 + number / 256) ≡ true = grind (arith, nat_tests) in
        test ∙ sym is
    by_test false is =
        let apart : 256 * a + b ≢ number = grind (arith, nat_tests) in
        let turned : a + 256 * b ≢ number % 256 * 256 + number / 256 = (λ e. apart (omega (arith, e, high, low, small))) in
        let test : nat_eq (a + 256 * b) (number % 256 * 256 + number / 256) ≡ false = grind (arith, nat_tests) in
        test ∙ sym is

pub eight_marked : (bytes : List ℕ) (number marks : ℕ) → length bytes ≡ 16 → Each1 (Fits w8) bytes → number < 65536
    → marks ≡ mask_l (map (top 15) (zip2 (λ (a b : ℕ). cond (not (nat_eq a b)) 65535 0) (digits_l 65536 8 (number_l 256 bytes)) (replicate 8 (number % 256 * 256 + number / 256)))) % 2 ^ 64
    → AreMarks bytes number 8 marks
eight_marked bytes number marks long are small is = record {
  lanes = map differs words;
  mask = is ∙ bitmask_splat w16 (λ (a b : ℕ). not (nat_eq a b)) words 8 turned (eight_digits (number_l 256 bytes)) (omega arith);
  long = length-map words differs ∙ eight_digits (number_l 256 bytes);
  are = λ k below.
      get_or-map differs words k 0 false (omega (arith, below, eight_digits (number_l 256 bytes)))
      ∙ ap differs (get_or_wider 256 2 65536 8 bytes k (omega arith) (Each1-weaker (Fits w8) (λ (x : ℕ). x < 256) (λ x fits. fits.fits) bytes are) below ∙ low_first bytes k)
      ∙ ap not (turned_test (get_or bytes (2 * k) 0) (get_or bytes (2 * k + 1) 0) number (byte (2 * k) (omega (arith, below, long))) (byte (2 * k + 1) (omega (arith, below, long))) small);
}
  where
    words : List ℕ
    words = digits_l 65536 8 (number_l 256 bytes)

    turned : ℕ
    turned = number % 256 * 256 + number / 256

    differs : ℕ → Bool
    differs a = not (nat_eq a turned)

    byte : (k : ℕ) → k < length bytes → get_or bytes k 0 < 256
    byte k within = (Each1-get_or (Fits w8) bytes k 0 within are).fits

-- ---- More pairs

-- zeros at the end change no byte that is read
zeros_after : (bytes : List ℕ) (n k : ℕ) → get_or (bytes ++ replicate n 0) k 0 ≡ get_or bytes k 0
zeros_after [] zero k = refl
zeros_after [] (suc n) zero = refl
zeros_after [] (suc n) (suc k) = zeros_after [] n k
zeros_after (b ∷ bytes) n zero = refl
zeros_after (b ∷ bytes) n (suc k) = zeros_after bytes n k

pub few_marked : (bytes lanes : List ℕ) (number marks : ℕ) → length bytes ≤ 16 → lanes ≡ bytes ++ replicate (16 - length bytes) 0
    → AreMarks lanes number 8 marks → AreMarks bytes number (max 8 (min 32 (length bytes) / 2)) marks
few_marked bytes lanes number marks few padded marked =
    let all : 8 ≡ max 8 (min 32 (length bytes) / 2) = omega (arith, few) in
    let same = λ (k : ℕ). ap (λ (xs : List ℕ). get_or xs k 0) padded ∙ zeros_after bytes (16 - length bytes) k in
    subst (λ (n : ℕ). AreMarks bytes number n marks) all (record {
      lanes = marked.lanes;
      mask = marked.mask;
      long = marked.long;
      are = λ k below. marked.are k below ∙ ap₂ (λ (a b : ℕ). not (nat_eq (256 * a + b) number)) (same (2 * k)) (same (2 * k + 1));
    })

module _ (bytes : List ℕ) (number end front back : ℕ) (is : end ≡ min 32 (length bytes)) (some : 16 < end) (whole : 2 * (length bytes / 2) ≡ length bytes)
    (first : AreMarks (chunk 0 16 bytes) number 8 front) (last : AreMarks (chunk (end - 16) 16 bytes) number 8 back) where
  abbrev pub both : ℕ
  both = (32 - end) / 2

  abbrev joined_lanes : List Bool
  joined_lanes = first.lanes ++ drop both last.lanes

  byte_of_first : (i : ℕ) → i < 16 → get_or (chunk 0 16 bytes) i 0 ≡ get_or bytes i 0
  byte_of_first i below = let e : 0 + i ≡ i = omega arith in get_or-chunk 0 16 bytes i 0 below ∙ ap (λ (n : ℕ). get_or bytes n 0) e

  byte_of_last : (i at : ℕ) → i < 16 → end - 16 + i ≡ at → get_or (chunk (end - 16) 16 bytes) i 0 ≡ get_or bytes at 0
  byte_of_last i at below e = get_or-chunk (end - 16) 16 bytes i 0 below ∙ ap (λ (n : ℕ). get_or bytes n 0) e

  lane_is : (k : ℕ) → k < end / 2 → (t : Bool) → nat_lt k 8 ≡ t → get_or joined_lanes k false ≡ not (nat_eq (pair_at bytes (2 * k)) number)
  lane_is k below true test =
      let low : k < 8 = grind (arith, nat_tests) in
      get_or_append_left first.lanes (drop both last.lanes) false k (omega (arith, low, first.long))
      ∙ first.are k low
      ∙ ap₂ (λ (a b : ℕ). not (nat_eq (256 * a + b) number)) (byte_of_first (2 * k) (omega (arith, low))) (byte_of_first (2 * k + 1) (omega (arith, low)))
  lane_is k below false test =
      let high : 8 ≤ k = grind (arith, nat_tests) in
      let place = both + (k - 8) in
      let inside : place < 8 = omega (arith, high, below, some, is, whole) in
      get_or-append_right first.lanes (drop both last.lanes) 8 k false first.long high
      ∙ get_or-drop both last.lanes (k - 8) false
      ∙ last.are place inside
      ∙ ap₂ (λ (a b : ℕ). not (nat_eq (256 * a + b) number))
      (byte_of_last (2 * place) (2 * k) (omega (arith, inside)) (omega (arith, high, some, is, whole)))
      (byte_of_last (2 * place + 1) (2 * k + 1) (omega (arith, inside)) (omega (arith, high, some, is, whole)))

  pub more_marked : AreMarks bytes number (max 8 (min 32 (length bytes) / 2)) (front + back / 2 ^ both * 256)
  more_marked =
      let all : end / 2 ≡ max 8 (min 32 (length bytes) / 2) = omega (arith, some, is) in
      subst (λ (n : ℕ). AreMarks bytes number n (front + back / 2 ^ both * 256)) all (record {
        lanes = joined_lanes;
        mask =
            ap₂ (λ (m n : ℕ). m + n / 2 ^ both * 256) first.mask last.mask
            ∙ ap₂ (λ (m n : ℕ). mask_l first.lanes + m * 2 ^ n) (mask-drop both last.lanes) (sym first.long)
            ∙ sym (mask-append first.lanes (drop both last.lanes));
        long = length-append first.lanes (drop both last.lanes) ∙ omega (arith, first.long, last.long, length-drop both last.lanes, some, is, whole);
        are = λ k below. lane_is k below (nat_lt k 8) refl;
      })

-- ---- All of them

pub first_marked : (bytes : List ℕ) (number marks : ℕ) → length bytes ≤ 32 → AreMarks bytes number (max 8 (min 32 (length bytes) / 2)) marks
    → MarksPairs bytes number marks
first_marked bytes number marks few marked = record {
  count = max 8 (min 32 (length bytes) / 2);
  many = omega (arith, few);
  few = omega arith;
  marks = marked;
}

-- those of sixteen pairs, and those after them
pub two_marked : (bytes : List ℕ) (number front back : ℕ) → 32 < length bytes
    → AreMarks bytes number (max 8 (min 32 (length bytes) / 2)) front → AreMarks (drop 32 bytes) number (max 8 (min 32 (length (drop 32 bytes)) / 2)) back
    → MarksPairs bytes number (front + back * 65536)
two_marked bytes number front back some first last = record {
  count = 16 + count;
  many = omega (arith, some, length-drop 32 bytes);
  few = omega arith;
  marks = record {
    lanes = first.lanes ++ last.lanes;
    mask =
        ap₂ (λ (m n : ℕ). m + n * 65536) first.mask last.mask
        ∙ ap (λ (n : ℕ). mask_l first.lanes + mask_l last.lanes * 2 ^ n) (sym sixteen)
        ∙ sym (mask-append first.lanes last.lanes);
    long = length-append first.lanes last.lanes ∙ ap₂ (λ (m n : ℕ). m + n) sixteen last.long;
    are = λ k below. lane_is k below (nat_lt k 16) refl;
  };
}
  where
    count : ℕ
    count = max 8 (min 32 (length (drop 32 bytes)) / 2)

    sixteen : length first.lanes ≡ 16
    sixteen = first.long ∙ omega (arith, some)

    byte_of_last : (i at : ℕ) → 32 + i ≡ at → get_or (drop 32 bytes) i 0 ≡ get_or bytes at 0
    byte_of_last i at e = get_or-drop 32 bytes i 0 ∙ ap (λ (n : ℕ). get_or bytes n 0) e

    lane_is : (k : ℕ) → k < 16 + count → (t : Bool) → nat_lt k 16 ≡ t → get_or (first.lanes ++ last.lanes) k false ≡ not (nat_eq (pair_at bytes (2 * k)) number)
    lane_is k below true test =
        let low : k < 16 = grind (arith, nat_tests) in
        get_or_append_left first.lanes last.lanes false k (omega (arith, low, sixteen)) ∙ first.are k (omega (arith, low, some))
    lane_is k below false test =
        let high : 16 ≤ k = grind (arith, nat_tests) in
        get_or-append_right first.lanes last.lanes 16 k false sixteen high
        ∙ last.are (k - 16) (omega (arith, high, below))
        ∙ ap₂ (λ (a b : ℕ). not (nat_eq (256 * a + b) number)) (byte_of_last (2 * (k - 16)) (2 * k) (omega (arith, high)))
        (byte_of_last (2 * (k - 16) + 1) (2 * k + 1) (omega (arith, high)))

-- ---- A run

-- a limit changes nothing under it
least_same : (marks n count : ℕ) → count ≤ n → min (first_set marks count) count ≡ min (first_set marks n) count
least_same marks n count few = by_test (marks == 0)
  where
    by_test : (t : Bool) → min (if t then count else trailing_zeros w64 marks) count ≡ min (if t then n else trailing_zeros w64 marks) count
    by_test true = omega (arith, few)
    by_test false = refl

module _ (bytes : List ℕ) (number marks from count same : ℕ) (marked : MarksPairs bytes number marks) (fits : from + count ≤ min 32 (length bytes / 2))
    (is : same ≡ min (first_set (marks / 2 ^ from) count) count) where
  abbrev rest : List Bool
  rest = drop from marked.marks.lanes

  abbrev left : ℕ
  left = marked.count - from

  inside : from + count ≤ marked.count
  inside = omega (arith, fits, marked.many)

  long : length rest ≡ left
  long = length-drop from marked.marks.lanes ∙ ap (λ (n : ℕ). n - from) marked.marks.long

  counted : same ≡ min (prefix_len not rest) count
  counted =
      is
      ∙ least_same (marks / 2 ^ from) left count (omega (arith, inside))
      ∙ ap (λ (m : ℕ). min (first_set m left) count) (ap (λ (m : ℕ). m / 2 ^ from) marked.marks.mask ∙ mask-drop from marked.marks.lanes ∙ ap mask_l (itself rest))
      ∙ ap (λ (n : ℕ). min n count) (first_set_mask_l (λ (b : Bool). b) rest left long (omega (arith, marked.few)))

  lane : (k : ℕ) → k < count → get_or rest k false ≡ not (nat_eq (pair_at bytes (2 * from + 2 * k)) number)
  lane k below =
      let place : 2 * (from + k) ≡ 2 * from + 2 * k = omega arith in
      get_or-drop from marked.marks.lanes k false
      ∙ marked.marks.are (from + k) (omega (arith, below, inside))
      ∙ ap (λ (n : ℕ). not (nat_eq (pair_at bytes n) number)) place

  pub run_marked : IsPairRun bytes number (2 * from) count same
  run_marked = record {
    within = omega (arith, is);
    are = λ k below.
        let passes = not-true _ (prefix_len_passes not rest k false (omega (arith, counted, below))) in
        eqb-true _ _ (not-false _ (sym (lane k (omega (arith, counted, below))) ∙ passes));
    apart = λ less.
        let all : prefix_len not rest ≡ same = omega (arith, counted, less) in
        let stops = not-false _ (subst (λ (n : ℕ). not (get_or rest n false) ≡ false) all (prefix_len_stops not rest false (omega (arith, all, less, long, inside)))) in
        eqb-false _ _ (not-true _ (sym (lane same less) ∙ stops));
  }
