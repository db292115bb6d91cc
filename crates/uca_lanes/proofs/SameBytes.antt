-- The first byte that differs, by the lowest bit that is set in one of two numbers alone.
use Rattle.std.proofs.Common.{◌≡◌, ◌≢◌, ℕ, zero, suc, ◌+◌, ◌-◌, ◌*◌, ◌/◌, ◌%◌, ◌^◌, ◌<◌, ◌≤◌, List, [], ◌∷◌, length, get_or, take, replicate, bit_xor, refl, sym, ap, ap₂, ◌∙◌, subst, inl, inr, arith, length-append}
use Rattle.std.specs.Simd.Lanes.{number_l}
use Rattle.std.proofs.lemmas.Bool.{cases_eq, cases_lt}
use Rattle.std.proofs.lemmas.Nat.{xor_block, xor_lt}
use Rattle.std.proofs.lemmas.List.{length-take, length-replicate}
use lib.Count.{count_trailing_zeros, under}
use Rattle.uca_lanes.specs.inside.Ends.{first_eight}
use Rattle.uca_lanes.specs.inside.Lanes.{IsSameRun}
use Rattle.uca_lanes.proofs.Ends.{no_bits, same_bits}
use Rattle.uca_lanes.proofs.MaskSteps.{AreBytes, append_are, tail_are, take_are}

-- one bit that is 0
twice : (k m : ℕ) → count_trailing_zeros (suc k) (2 * m) ≡ suc (count_trailing_zeros k m)
unfolding count_trailing_zeros
twice k m =
    let even : 2 * m % 2 ≡ 0 = omega arith in
    let half : 2 * m / 2 ≡ m = omega arith in
    ap₂ (λ (d n : ℕ). under d (count_trailing_zeros k n)) even half

-- eight places more
abbrev eight_more : ℕ → ℕ
eight_more k = suc (suc (suc (suc (suc (suc (suc (suc k)))))))

-- eight bits that are 0
eight : (k m : ℕ) → count_trailing_zeros (eight_more k) (256 * m) ≡ eight_more (count_trailing_zeros k m)
eight k m =
    let parts : 256 * m ≡ 2 * (2 * (2 * (2 * (2 * (2 * (2 * (2 * m))))))) = omega arith in
    let a = twice k m in
    let b = twice (suc k) (2 * m) ∙ ap suc a in
    let c = twice (suc (suc k)) (2 * (2 * m)) ∙ ap suc b in
    let d = twice (suc (suc (suc k))) (2 * (2 * (2 * m))) ∙ ap suc c in
    let e = twice (suc (suc (suc (suc k)))) (2 * (2 * (2 * (2 * m)))) ∙ ap suc d in
    let f = twice (suc (suc (suc (suc (suc k))))) (2 * (2 * (2 * (2 * (2 * m))))) ∙ ap suc e in
    let g = twice (suc (suc (suc (suc (suc (suc k)))))) (2 * (2 * (2 * (2 * (2 * (2 * m)))))) ∙ ap suc f in
    let h = twice (suc (suc (suc (suc (suc (suc (suc k))))))) (2 * (2 * (2 * (2 * (2 * (2 * (2 * m))))))) ∙ ap suc g in
    ap (count_trailing_zeros (eight_more k)) parts ∙ h

-- where the lowest bit that is set comes later, the first one is not set
later_bit : (k n j : ℕ) → suc j ≤ count_trailing_zeros (suc k) n → (n % 2 ≡ 0) × (j ≤ count_trailing_zeros k (n / 2))
unfolding count_trailing_zeros
later_bit k n j more = by_digit (n % 2) refl more
  where
    by_digit : (d : ℕ) → n % 2 ≡ d → suc j ≤ under d (count_trailing_zeros k (n / 2)) → (n % 2 ≡ 0) × (j ≤ count_trailing_zeros k (n / 2))
    by_digit zero e more = (e, omega (arith, more))
    by_digit (suc d) e more = absurd (omega (arith, more))

low_byte : (k n : ℕ) → 8 ≤ count_trailing_zeros (eight_more k) n → n % 256 ≡ 0
low_byte k n more =
    let a = later_bit (suc (suc (suc (suc (suc (suc (suc k))))))) n 7 more in
    let b = later_bit (suc (suc (suc (suc (suc (suc k)))))) (n / 2) 6 a.1 in
    let c = later_bit (suc (suc (suc (suc (suc k))))) (n / 2 / 2) 5 b.1 in
    let d = later_bit (suc (suc (suc (suc k)))) (n / 2 / 2 / 2) 4 c.1 in
    let e = later_bit (suc (suc (suc k))) (n / 2 / 2 / 2 / 2) 3 d.1 in
    let f = later_bit (suc (suc k)) (n / 2 / 2 / 2 / 2 / 2) 2 e.1 in
    let g = later_bit (suc k) (n / 2 / 2 / 2 / 2 / 2 / 2) 1 f.1 in
    let h = later_bit k (n / 2 / 2 / 2 / 2 / 2 / 2 / 2) 0 g.1 in
    omega (arith, a.0, b.0, c.0, d.0, e.0, f.0, g.0, h.0)

-- so many bytes are the same at the beginning
pub same_by_bits : (j : ℕ) (xs ys : List ℕ) → AreBytes xs → AreBytes ys → length xs ≡ j → length ys ≡ j
    → IsSameRun xs ys 0 0 j (count_trailing_zeros (8 * j) (bit_xor (number_l 256 xs) (number_l 256 ys)) / 8)
unfolding count_trailing_zeros
same_by_bits zero xs ys are are_too long long_too = record { within = omega arith; are = λ k below. absurd (omega (arith, below)); apart = λ more. absurd (omega (arith, more)) }
same_by_bits (suc j) [] ys are are_too long long_too = absurd (omega (arith, long))
same_by_bits (suc j) (x ∷ xs) [] are are_too long long_too = absurd (omega (arith, long_too))
same_by_bits (suc j) (x ∷ xs) (y ∷ ys) are are_too long long_too = elim (cases_eq x y) [
  | inl e ↦ same e (same_by_bits j xs ys (tail_are x xs are) (tail_are y ys are_too) (omega (arith, long)) (omega (arith, long_too)))
  | inr n ↦ other n
]
  where
    a : ℕ
    a = number_l 256 xs

    b : ℕ
    b = number_l 256 ys

    count : ℕ → ℕ
    count n = count_trailing_zeros (8 * suc j) n / 8

    places : 8 * suc j ≡ eight_more (8 * j)
    places = omega arith

    parts : bit_xor (x + 256 * a) (y + 256 * b) ≡ bit_xor a b * 256 + bit_xor x y
    parts =
        let left : x + 256 * a ≡ a * 2 ^ 8 + x = omega arith in
        let right : y + 256 * b ≡ b * 2 ^ 8 + y = omega arith in
        ap₂ bit_xor left right ∙ xor_block 8 a b x y (are 0).fits (are_too 0).fits

    same : x ≡ y → IsSameRun xs ys 0 0 j (count_trailing_zeros (8 * j) (bit_xor a b) / 8)
        → IsSameRun (x ∷ xs) (y ∷ ys) 0 0 (suc j) (count (bit_xor (x + 256 * a) (y + 256 * b)))
    same e rest =
        let n = count_trailing_zeros (8 * j) (bit_xor a b) in
        let whole : bit_xor (x + 256 * a) (y + 256 * b) ≡ 256 * bit_xor a b = omega (arith, parts, same_bits x y e) in
        let counted : count_trailing_zeros (8 * suc j) (bit_xor (x + 256 * a) (y + 256 * b)) ≡ eight_more n =
        ap₂ count_trailing_zeros places whole ∙ eight (8 * j) (bit_xor a b) in
        let one_more : count (bit_xor (x + 256 * a) (y + 256 * b)) ≡ suc (n / 8) = omega (arith, counted) in
        subst (IsSameRun (x ∷ xs) (y ∷ ys) 0 0 (suc j)) (sym one_more) record {
          within = omega (arith, rest.within);
          are = λ k below. by_place k e (λ i less. rest.are i (omega (arith, less))) below;
          apart = λ more equal.
              let later : 0 + suc (n / 8) ≡ suc (0 + n / 8) = omega arith in
              rest.apart (omega (arith, more)) (subst (λ i. get_or (x ∷ xs) i 0 ≡ get_or (y ∷ ys) i 0) later equal);
        }
      where
        by_place : (k : ℕ) → x ≡ y → ((i : ℕ) → suc i < suc (count_trailing_zeros (8 * j) (bit_xor a b) / 8) → get_or xs (0 + i) 0 ≡ get_or ys (0 + i) 0)
            → k < suc (count_trailing_zeros (8 * j) (bit_xor a b) / 8) → get_or (x ∷ xs) (0 + k) 0 ≡ get_or (y ∷ ys) (0 + k) 0
        by_place zero e rest below = e
        by_place (suc k) e rest below =
            let later : 0 + suc k ≡ suc (0 + k) = omega arith in
            subst (λ n. get_or (x ∷ xs) n 0 ≡ get_or (y ∷ ys) n 0) (sym later) (rest k below)

    other : x ≢ y → IsSameRun (x ∷ xs) (y ∷ ys) 0 0 (suc j) (count (bit_xor (x + 256 * a) (y + 256 * b)))
    other differ =
        let n = bit_xor (x + 256 * a) (y + 256 * b) in
        let small : bit_xor x y < 2 ^ 8 = xor_lt 8 x y (are 0).fits (are_too 0).fits in
        let none : count n ≡ 0 = elim (cases_lt (count_trailing_zeros (8 * suc j) n) 8) [
          | inl less ↦ omega (arith, less)
          | inr more ↦ (let at = subst (λ k. 8 ≤ count_trailing_zeros k n) places more in
              let zeros = low_byte (8 * j) n at in absurd (differ (no_bits x y (omega (arith, zeros, parts, small)))))
        ] in
        subst (IsSameRun (x ∷ xs) (y ∷ ys) 0 0 (suc j)) (sym none) record {
          within = omega arith;
          are = λ k below. absurd (omega (arith, below));
          apart = λ more e. differ e;
        }

-- ---- the first eight bytes of a text

zeros_are : (n : ℕ) → AreBytes (replicate n 0)
zeros_are zero k = record { fits = omega arith }
zeros_are (suc n) zero = record { fits = omega arith }
zeros_are (suc n) (suc k) = zeros_are n k

pub first_are : (bytes : List ℕ) → AreBytes bytes → AreBytes (first_eight bytes)
first_are bytes are = append_are (take 8 bytes) (replicate (8 - length bytes) 0) (take_are 8 bytes are) (zeros_are (8 - length bytes))

pub first_long : (bytes : List ℕ) → length (first_eight bytes) ≡ 8
first_long bytes =
    length-append (take 8 bytes) (replicate (8 - length bytes) 0) ∙ omega (arith, length-take 8 bytes, length-replicate {A = ℕ} (8 - length bytes) 0)
