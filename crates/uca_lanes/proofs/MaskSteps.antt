-- From vectors, masks and numbers to the bytes that they are made of.
use Rattle.std.proofs.Common.{◌≡◌, ℕ, zero, suc, ◌+◌, ◌-◌, ◌*◌, ◌/◌, ◌%◌, ◌^◌, ◌<◌, ◌≤◌, Bool, true, false, cond, List, [], ◌∷◌, ◌++◌, map, length, take, drop, get_or, replicate, leb, ltb, eqb, w8, Fits, refl, sym, ap, ◌∙◌, arith, append-nil, length-append, take_all, take-append-drop, subst, ap₂, ltb-true, ltb-false, leb-false}
use Rattle.std.specs.Simd.Lanes.{mask_l, number_l, digits_l, chunk}
use Rattle.std.proofs.lemmas.Bool.{lt-leb}
use Rattle.std.proofs.lemmas.List.{map-append, drop-map, drop-drop, get_or-drop, length-map, length-drop}
use Rattle.std.proofs.lemmas.Nat.{shr-shr}
use Rattle.std.proofs.lemmas.Simd.{mask_l-lt, mask_l-mod, tops_compared, zip2_splat_left, bitmask_splat, length-chunk}
use Rattle.std.proofs.Math.Nat.{pow-suc, mul_assoc, zero-div}
use lib.Lanes.{sel_l, zip2, top}
use Rattle.uca_lanes.specs.inside.Marks.{joined, marks_from, marks_of}

-- ---- masks of one vector

pub compared_from : (least : ℕ) (bytes : List ℕ) → length bytes ≡ 16 → mask_l (map (top 7) (zip2 (λ a b. cond (leb a b) 255 0) (replicate 16 least) bytes)) % 2 ^ 64 ≡ marks_from least bytes
compared_from least bytes long =
    ap (λ ms. mask_l ms % 2 ^ 64) (tops_compared w8 leb (replicate 16 least) bytes ∙ zip2_splat_left leb least 16 bytes long)
    ∙ mask_l-mod (map (leb least) bytes) 64 (omega (arith, length-map bytes (leb least), long))

pub compared_to : (byte : ℕ) (bytes : List ℕ) → length bytes ≡ 16 → mask_l (map (top 7) (zip2 (λ a b. cond (eqb a b) 255 0) bytes (replicate 16 byte))) % 2 ^ 64 ≡ marks_of byte bytes
compared_to byte bytes long = bitmask_splat w8 eqb bytes 16 byte long (omega arith)

-- of at most k lanes
pub mask_bound : (k : ℕ) (ms : List Bool) → length ms ≡ k → mask_l ms < 2 ^ k
mask_bound k ms long = subst (λ n. mask_l ms < 2 ^ n) long (mask_l-lt ms)

pub from_bound : (least : ℕ) (bytes : List ℕ) → length bytes ≡ 16 → marks_from least bytes < 2 ^ 16
from_bound least bytes long = mask_bound 16 (map (leb least) bytes) (length-map bytes (leb least) ∙ long)

pub of_bound : (byte : ℕ) (bytes : List ℕ) → length bytes ≡ 16 → marks_of byte bytes < 2 ^ 16
of_bound byte bytes long = mask_bound 16 (map (λ b. eqb b byte) bytes) (length-map bytes (λ b. eqb b byte) ∙ long)

-- ---- the greater one of each pair

abbrev greater : List ℕ → List ℕ → List ℕ
greater xs ys = sel_l (zip2 ltb xs ys) ys xs

-- where the greater one is less than this one, both are
both_less : (least x y : ℕ) → leb least (cond (ltb x y) y x) ≡ false → (leb least x ≡ false) × (leb least y ≡ false)
both_less least x y = by_order (ltb x y) refl
  where
    by_order : (b : Bool) → ltb x y ≡ b → leb least (cond b y x) ≡ false → (leb least x ≡ false) × (leb least y ≡ false)
    by_order true less below =
        let within : x < y = ltb-true x y less in
        let under : y < least = leb-false least y below in (lt-leb least x (omega (arith, within, under)), below)
    by_order false not_less below =
        let within : y ≤ x = ltb-false x y not_less in
        let under : x < least = leb-false least x below in (below, lt-leb least y (omega (arith, within, under)))

pub no_bit : (m : Bool) (n : ℕ) → cond m 1 0 + 2 * n ≡ 0 → (m ≡ false) × (n ≡ 0)
no_bit true n none = absurd (omega (arith, none))
no_bit false n none = (refl, omega (arith, none))

none_greater : (least : ℕ) (xs ys : List ℕ) → length xs ≡ length ys → marks_from least (greater xs ys) ≡ 0
    → (marks_from least xs ≡ 0) × (marks_from least ys ≡ 0)
none_greater least [] [] long none = (refl, refl)
none_greater least [] (y ∷ ys) long none = absurd (omega (arith, long))
none_greater least (x ∷ xs) [] long none = absurd (omega (arith, long))
none_greater least (x ∷ xs) (y ∷ ys) long none =
    let bits = no_bit (leb least (cond (ltb x y) y x)) (marks_from least (greater xs ys)) none in
    let less = both_less least x y bits.0 in
    let rest = none_greater least xs ys (omega (arith, long)) bits.1 in (
      ap₂ (λ (b : Bool) (n : ℕ). cond b 1 0 + 2 * n) less.0 rest.0,
      ap₂ (λ (b : Bool) (n : ℕ). cond b 1 0 + 2 * n) less.1 rest.1,
    )

-- the mask of the greater one of each pair, as vectors have it
pub none_in_both : (least mask : ℕ) (xs ys : List ℕ) → length xs ≡ 16 → length ys ≡ 16
    → mask ≡ marks_from least (sel_l (map (top 7) (zip2 (λ a b. cond (ltb a b) 255 0) xs ys)) ys xs) → mask ≡ 0
    → (marks_from least xs ≡ 0) × (marks_from least ys ≡ 0)
none_in_both least mask xs ys long long_too is none =
    none_greater least xs ys (omega (arith, long, long_too)) (ap (λ ms. marks_from least (sel_l ms ys xs)) (sym (tops_compared w8 ltb xs ys)) ∙ sym is ∙ none)

-- where both are less than this one, the greater one is
both_below : (least x y : ℕ) → leb least x ≡ false → leb least y ≡ false → leb least (cond (ltb x y) y x) ≡ false
both_below least x y less less_too = by_order (ltb x y)
  where
    by_order : (b : Bool) → leb least (cond b y x) ≡ false
    by_order true = less_too
    by_order false = less

none_lesser : (least : ℕ) (xs ys : List ℕ) → length xs ≡ length ys → marks_from least xs ≡ 0 → marks_from least ys ≡ 0
    → marks_from least (greater xs ys) ≡ 0
none_lesser least [] [] long none none_too = refl
none_lesser least [] (y ∷ ys) long none none_too = absurd (omega (arith, long))
none_lesser least (x ∷ xs) [] long none none_too = absurd (omega (arith, long))
none_lesser least (x ∷ xs) (y ∷ ys) long none none_too =
    let bits = no_bit (leb least x) (marks_from least xs) none in
    let bits_too = no_bit (leb least y) (marks_from least ys) none_too in
    ap₂ (λ (b : Bool) (n : ℕ). cond b 1 0 + 2 * n) (both_below least x y bits.0 bits_too.0)
    (none_lesser least xs ys (omega (arith, long)) bits.1 bits_too.1)

pub none_of_both : (least : ℕ) (xs ys : List ℕ) → length xs ≡ 16 → length ys ≡ 16 → marks_from least xs ≡ 0 → marks_from least ys ≡ 0
    → marks_from least (sel_l (map (top 7) (zip2 (λ a b. cond (ltb a b) 255 0) xs ys)) ys xs) ≡ 0
none_of_both least xs ys long long_too none none_too =
    ap (λ ms. marks_from least (sel_l ms ys xs)) (tops_compared w8 ltb xs ys)
    ∙ none_lesser least xs ys (omega (arith, long, long_too)) none none_too

-- ---- masks of a front and a back

half : (m : Bool) (n : ℕ) → (cond m 1 0 + 2 * n) / 2 ^ 1 ≡ n
half true n = omega arith
half false n = omega arith

pub mask-drop : (k : ℕ) (ms : List Bool) → mask_l ms / 2 ^ k ≡ mask_l (drop k ms)
mask-drop zero ms = omega arith
mask-drop (suc k) [] = zero-div (2 ^ suc k)
mask-drop (suc k) (m ∷ ms) =
    let n = mask_l (m ∷ ms) in
    let e : suc k ≡ 1 + k = omega arith in
    ap (λ j. n / 2 ^ j) e ∙ sym (shr-shr n 1 k) ∙ ap (λ a. a / 2 ^ k) (half m (mask_l ms)) ∙ mask-drop k ms

pub mask-append : (xs ys : List Bool) → mask_l (xs ++ ys) ≡ mask_l xs + mask_l ys * 2 ^ length xs
mask-append [] ys = omega arith
mask-append (x ∷ xs) ys =
    let k = length xs in
    let twice : mask_l ys * 2 ^ suc k ≡ mask_l ys * 2 ^ k * 2 = ap (λ n. mask_l ys * n) (pow-suc 2 k) ∙ sym (mul_assoc (mask_l ys) (2 ^ k) 2) in
    omega (arith, twice, mask-append xs ys)

module _ (p : ℕ → Bool) (front back : List ℕ) (both : ℕ) (long : length front ≡ 16) where
  pub joined_masks : mask_l (map p front) + mask_l (map p back) / 2 ^ both * 65536 ≡ mask_l (map p (joined front back both))
  joined_masks =
      ap (λ n. mask_l (map p front) + n * 65536) (mask-drop both (map p back) ∙ ap mask_l (drop-map p both back))
      ∙ ap (λ n. mask_l (map p front) + mask_l (map p (drop both back)) * 2 ^ n) (sym (length-map front p ∙ long))
      ∙ sym (mask-append (map p front) (map p (drop both back)))
      ∙ ap mask_l (sym (map-append p front (drop both back)))

-- no byte of the two is at least this one, so none of those that are joined
pub none_joined : (least : ℕ) (front back : List ℕ) (both : ℕ) → length front ≡ 16 → marks_from least front ≡ 0 → marks_from least back ≡ 0
    → marks_from least (joined front back both) ≡ 0
none_joined least front back both long none none_too =
    sym (joined_masks (leb least) front back both long)
    ∙ ap₂ (λ (m n : ℕ). m + n / 2 ^ both * 65536) none none_too
    ∙ ap (λ (n : ℕ). 0 + n * 65536) (zero-div (2 ^ both))

-- ---- numbers

abbrev pub AreBytes : List ℕ → Type 0
AreBytes xs = (k : ℕ) → Fits w8 (get_or xs k 0)

pub tail_are : (x : ℕ) (xs : List ℕ) → AreBytes (x ∷ xs) → AreBytes xs
tail_are x xs are k = are (suc k)

-- the rest of a number's bytes
without_first : (x n : ℕ) → x < 256 → (x + 256 * n) / 2 ^ 8 ≡ n
without_first x n h = omega (arith, h)

number-drop : (k : ℕ) (xs : List ℕ) → AreBytes xs → number_l 256 xs / 2 ^ (8 * k) ≡ number_l 256 (drop k xs)
number-drop zero xs are = omega arith
number-drop (suc k) [] are = zero-div (2 ^ (8 * suc k))
number-drop (suc k) (x ∷ xs) are =
    let n = number_l 256 (x ∷ xs) in
    let e : 8 * suc k ≡ 8 + 8 * k = omega arith in
    ap (λ j. n / 2 ^ j) e ∙ sym (shr-shr n 8 (8 * k)) ∙ ap (λ a. a / 2 ^ (8 * k)) (without_first x (number_l 256 xs) (are 0).fits) ∙ number-drop k xs (tail_are x xs are)

number-append : (xs ys : List ℕ) → number_l 256 (xs ++ ys) ≡ number_l 256 xs + number_l 256 ys * 256 ^ length xs
number-append [] ys = omega arith
number-append (x ∷ xs) ys =
    let k = length xs in
    let n = number_l 256 ys in
    let more : n * 256 ^ suc k ≡ n * 256 ^ k * 256 = ap (λ m. n * m) (pow-suc 256 k) ∙ sym (mul_assoc n (256 ^ k) 256) in
    omega (arith, more, number-append xs ys)

number_of_zeros : (n : ℕ) → number_l 256 (replicate n 0) ≡ 0
number_of_zeros zero = refl
number_of_zeros (suc n) = omega (arith, number_of_zeros n)

-- zeros after bytes change nothing
pub number_with_zeros : (xs : List ℕ) (n : ℕ) → number_l 256 (xs ++ replicate n 0) ≡ number_l 256 xs
number_with_zeros xs n =
    number-append xs (replicate n 0) ∙ ap (λ m. number_l 256 xs + m * 256 ^ length xs) (number_of_zeros n) ∙ omega arith

number-lt : (xs : List ℕ) → AreBytes xs → number_l 256 xs < 256 ^ length xs
number-lt [] are = omega arith
number-lt (x ∷ xs) are = omega (arith, pow-suc 256 (length xs), (are 0).fits, number-lt xs (tail_are x xs are))

drop_are : (k : ℕ) (xs : List ℕ) → AreBytes xs → AreBytes (drop k xs)
drop_are k xs are i = subst (Fits w8) (sym (get_or-drop k xs i 0)) (are (k + i))

pub take_are : (n : ℕ) (xs : List ℕ) → AreBytes xs → AreBytes (take n xs)
take_are zero xs are k = record { fits = omega arith }
take_are (suc n) [] are k = record { fits = omega arith }
take_are (suc n) (x ∷ xs) are zero = are 0
take_are (suc n) (x ∷ xs) are (suc k) = take_are n xs (tail_are x xs are) k

pub append_are : (xs ys : List ℕ) → AreBytes xs → AreBytes ys → AreBytes (xs ++ ys)
append_are [] ys are are_too k = are_too k
append_are (x ∷ xs) ys are are_too zero = are 0
append_are (x ∷ xs) ys are are_too (suc k) = append_are xs ys (tail_are x xs are) are_too k

pub chunk_are : (at n : ℕ) (xs : List ℕ) → AreBytes xs → AreBytes (chunk at n xs)
chunk_are at n xs are = take_are n (drop at xs) (drop_are at xs are)

pub number_bound : (at n : ℕ) (xs : List ℕ) → AreBytes xs → at + n ≤ length xs → number_l 256 (chunk at n xs) < 256 ^ n
number_bound at n xs are room = subst (λ k. number_l 256 (chunk at n xs) < 256 ^ k) (length-chunk at n xs room) (number-lt (chunk at n xs) (chunk_are at n xs are))

-- two shifts by half of some bytes are one by all of them
pub two_shifts : (n bytes : ℕ) → n / 2 ^ (4 * bytes) / 2 ^ (4 * bytes) ≡ n / 2 ^ (8 * bytes)
two_shifts n bytes =
    let sum : 4 * bytes + 4 * bytes ≡ 8 * bytes = omega arith in
    shr-shr n (4 * bytes) (4 * bytes) ∙ ap (λ (k : ℕ). n / 2 ^ k) sum

-- the first h bytes, and those of the last h that are not among them
pub halves : (h both : ℕ) (xs : List ℕ) → AreBytes xs → h ≤ length xs → both + length xs ≡ h + h
    → number_l 256 (chunk 0 h xs) + number_l 256 (chunk (length xs - h) h xs) / 2 ^ (8 * both) * 256 ^ h ≡ number_l 256 xs
halves h both xs are some twice =
    let back = chunk (length xs - h) h xs in
    let is_back : back ≡ drop (length xs - h) xs = take_all h (drop (length xs - h) xs) (omega (arith, length-drop (length xs - h) xs, some)) in
    let after : drop both back ≡ drop h xs = ap (drop both) is_back ∙ drop-drop both (length xs - h) xs ∙ ap (λ k. drop k xs) (omega (arith, twice, some)) in
    let long : length (take h xs) ≡ h = length-chunk 0 h xs (omega (arith, some)) in
    ap (λ n. number_l 256 (take h xs) + n * 256 ^ h) (number-drop both back (chunk_are (length xs - h) h xs are) ∙ ap (number_l 256) after)
    ∙ ap (λ k. number_l 256 (take h xs) + number_l 256 (drop h xs) * 256 ^ k) (sym long)
    ∙ sym (number-append (take h xs) (drop h xs))
    ∙ ap (number_l 256) (take-append-drop h xs)

-- ---- the bytes of a number

zero_bytes : (k : ℕ) → digits_l 256 k 0 ≡ replicate k 0
zero_bytes zero = refl
zero_bytes (suc k) = ap (λ l. 0 ∷ l) (zero_bytes k)

pub spelled : (k : ℕ) (xs : List ℕ) → AreBytes xs → length xs ≤ k → digits_l 256 k (number_l 256 xs) ≡ xs ++ replicate (k - length xs) 0
spelled zero [] are room = refl
spelled zero (x ∷ xs) are room = absurd (omega (arith, room))
spelled (suc k) [] are room =
    let all : suc k ≡ suc k - 0 = omega arith in
    zero_bytes (suc k) ∙ ap (λ n. replicate n 0) all
spelled (suc k) (x ∷ xs) are room =
    let n = number_l 256 xs in
    let low : (x + 256 * n) % 256 ≡ x = omega (arith, (are 0).fits) in
    let rest : (x + 256 * n) / 256 ≡ n = omega (arith, (are 0).fits) in
    let left : k - length xs ≡ suc k - suc (length xs) = omega arith in
    ap₂ (λ b l. b ∷ l) low (ap (digits_l 256 k) rest ∙ spelled k xs (tail_are x xs are) (omega (arith, room)) ∙ ap (λ m. xs ++ replicate m 0) left)

-- the first eight bytes and the last eight, as two numbers have them
pub two_eights : (bytes : List ℕ) (front back : ℕ) → AreBytes bytes → 8 ≤ length bytes
    → front ≡ number_l 256 (chunk 0 8 bytes) → back ≡ number_l 256 (chunk (length bytes - 8) 8 bytes)
    → digits_l 256 16 (front + 18446744073709551616 * (back + 0)) ≡ take 8 bytes ++ drop (length bytes - 8) bytes
two_eights bytes front back are many is is_too =
    let j = length bytes - 8 in
    let first = take 8 bytes in
    let last = drop j bytes in
    let long : length first ≡ 8 = length-chunk 0 8 bytes (omega (arith, many)) in
    let rest : length last ≡ 8 = length-drop j bytes ∙ omega (arith, many) in
    let all : chunk j 8 bytes ≡ last = take_all 8 last (omega (arith, rest)) in
    let whole : front + 18446744073709551616 * (back + 0) ≡ number_l 256 first + number_l 256 last * 256 ^ 8 = omega (arith, is, is_too, ap (number_l 256) all) in
    let joined : number_l 256 first + number_l 256 last * 256 ^ 8 ≡ number_l 256 (first ++ last) =
    ap (λ n. number_l 256 first + number_l 256 last * 256 ^ n) (sym long) ∙ sym (number-append first last) in
    let sixteen : length (first ++ last) ≡ 16 = length-append first last ∙ omega (arith, long, rest) in
    let none : 16 - length (first ++ last) ≡ 0 = omega (arith, sixteen) in
    ap (digits_l 256 16) (whole ∙ joined)
    ∙ spelled 16 (first ++ last) (append_are first last (take_are 8 bytes are) (drop_are j bytes are)) (omega (arith, sixteen))
    ∙ ap (λ n. (first ++ last) ++ replicate n 0) none
    ∙ append-nil (first ++ last)
