-- From the marks of the first eight bytes and the last eight to those of all bytes. There are at most fifteen.
use Rattle.std.proofs.Common.{IsTrue, nat_eq, eq-eqb, eqb-true, ◌≡◌, ℕ, zero, suc, ◌+◌, ◌-◌, ◌*◌, ◌/◌, ◌%◌, ◌^◌, ◌<◌, ◌≤◌, ◌↔◌, ◌&&◌, Bool, true, false, not, cond, List, [], ◌∷◌, ◌++◌, map, length, take, drop, replicate, leb, bit_and, refl, sym, ap, ap₂, ◌∙◌, subst, inl, inr, arith, take-append-drop, length-append, ltb, lt-ltb, le-ltb, le-leb, bit_xor, eqb, ne_eqb, w8}
use Rattle.std.specs.Str.{IsUtf8}
use Rattle.std.specs.Simd.Lanes.{mask_l}
use Rattle.std.proofs.lemmas.Bool.{and_parts, and_from, cases_lt, leb-false, lt-leb}
use Rattle.std.proofs.lemmas.List.{map-append, drop-map, length-map, length-take, length-replicate}
use Rattle.std.proofs.lemmas.Nat.{and_block, and_le_l, and_le_r, and_mask, shr-shr, xor_block, xor_lt, xor_mod, xor_shr}
use Rattle.std.proofs.lemmas.Simd.{mask_l-mod, tops_compared}
use Rattle.std.proofs.Math.Nat.{zero-div}
use lib.Bits.{xor_add_and, xor_self}
use lib.Lanes.{sel_l, zip2, top}
use Rattle.uca_lanes.specs.Narrow.{AreNarrow}
use Rattle.uca_lanes.specs.inside.Ends.{AreEnds, EndsAgree, marks_of_leads, marks_of_others}
use Rattle.uca_lanes.specs.inside.Marks.{marks_from}
use Rattle.uca_lanes.proofs.CodePoints.{bit, bit_most, falls_all, few-IsUtf8, from}
use Rattle.uca_lanes.proofs.MaskSteps.{from_bound, mask-append, mask-drop, mask_bound}
use Rattle.uca_lanes.proofs.Narrow.{narrow_marks}

-- ---- numbers without the ninth bit of each half

-- a number below 2 ^ 32 without it
known_one : (x : ℕ) → x < 2 ^ 32 → bit_and x 4294967039 ≡ x / 512 * 512 + x % 256
known_one x small =
    let parts : x ≡ x / 512 * 2 ^ 9 + x % 512 = omega arith in
    let high : bit_and (x / 512) (2 ^ 23 - 1) ≡ x / 512 % 2 ^ 23 = and_mask (x / 512) 23 in
    let low : bit_and (x % 512) (2 ^ 8 - 1) ≡ x % 512 % 2 ^ 8 = and_mask (x % 512) 8 in
    let block = and_block 9 (x / 512) (2 ^ 23 - 1) (x % 512) (2 ^ 8 - 1) (omega arith) (omega arith) in
    ap (λ n. bit_and n 4294967039) parts ∙ block ∙ omega (arith, high, low, small)

known_two : (x y : ℕ) → x < 2 ^ 32 → y < 2 ^ 32
    → bit_and (x + y * 2 ^ 32) 18446742974197923583 ≡ x / 512 * 512 + x % 256 + (y / 512 * 512 + y % 256) * 2 ^ 32
known_two x y small small_too =
    let turned : x + y * 2 ^ 32 ≡ y * 2 ^ 32 + x = omega arith in
    ap (λ n. bit_and n 18446742974197923583) turned
    ∙ and_block 32 y 4294967039 x 4294967039 small (omega arith)
    ∙ omega (arith, known_one x small, known_one y small_too)

-- numbers that differ in no bit are the same
pub no_bits : (a b : ℕ) → bit_xor a b ≡ 0 → a ≡ b
no_bits a b none = omega (arith, xor_add_and a b, and_le_l a b, and_le_r a b, none)

pub same_bits : (a b : ℕ) → a ≡ b → bit_xor a b ≡ 0
same_bits a b same = ap (bit_xor a) (sym same) ∙ xor_self a

-- two numbers are the same before the ninth bit and after it
abbrev Same : ℕ → ℕ → Type 0
Same x v = (x % 256 ≡ v % 256) × (x / 512 ≡ v / 512)

same_but_one : (x v : ℕ) → ((bit_xor x v % 256 ≡ 0) × (bit_xor x v / 512 ≡ 0)) ↔ Same x v
same_but_one x v =
    let low = xor_mod x v 8 in
    let high = xor_shr x v 9 in (
      λ h. (no_bits (x % 2 ^ 8) (v % 2 ^ 8) (sym low ∙ h.0), no_bits (x / 2 ^ 9) (v / 2 ^ 9) (sym high ∙ h.1)),
      λ h. (low ∙ same_bits (x % 2 ^ 8) (v % 2 ^ 8) h.0, high ∙ same_bits (x / 2 ^ 9) (v / 2 ^ 9) h.1),
    )

-- two pairs of numbers, each as one number: by all bits but the ninth of each
same_known : (x y v w : ℕ) → x < 2 ^ 32 → y < 2 ^ 32 → v < 2 ^ 32 → w < 2 ^ 32
    → (bit_and (bit_xor (x + y * 2 ^ 32) (v + w * 2 ^ 32)) 18446742974197923583 ≡ 0) ↔ (Same x v × Same y w)
same_known x y v w hx hy hv hw = (
  λ e. (let none = sym known ∙ e in ((same_but_one x v).0 (omega (arith, none), omega (arith, none)), (same_but_one y w).0 (omega (arith, none), omega (arith, none)))),
  λ h. (let one = (same_but_one x v).1 h.0 in let other = (same_but_one y w).1 h.1 in known ∙ omega (arith, one.0, one.1, other.0, other.1)),
)
  where
    known : bit_and (bit_xor (x + y * 2 ^ 32) (v + w * 2 ^ 32)) 18446742974197923583
        ≡ bit_xor x v / 512 * 512 + bit_xor x v % 256 + (bit_xor y w / 512 * 512 + bit_xor y w % 256) * 2 ^ 32
    known =
        let left : x + y * 2 ^ 32 ≡ y * 2 ^ 32 + x = omega arith in
        let right : v + w * 2 ^ 32 ≡ w * 2 ^ 32 + v = omega arith in
        let turned : bit_xor y w * 2 ^ 32 + bit_xor x v ≡ bit_xor x v + bit_xor y w * 2 ^ 32 = omega arith in
        ap (λ n. bit_and n 18446742974197923583) (ap₂ bit_xor left right ∙ xor_block 32 y w x v hx hv ∙ turned)
        ∙ known_two (bit_xor x v) (bit_xor y w) (xor_lt 32 x v hx hv) (xor_lt 32 y w hy hw)

-- ---- the bytes from C2 to DF

abbrev is_lead : ℕ → Bool
is_lead b = leb 0xc2 b && ltb b 0xe0

and-true : (t : Bool) → (t && true) ≡ t
and-true true = refl
and-true false = refl

and-false : (t : Bool) → (t && false) ≡ false
and-false true = refl
and-false false = refl

lead_or_not : (b : ℕ) → (from 0xc0 b ≡ bit (is_lead b)) ↔ ((from 0xe0 b ≡ 0) × (from 0xc0 b ≡ from 0xc2 b))
lead_or_not b = elim (cases_lt b 0xe0) [ inl below ↦ there below | inr above ↦ back above ]
  where
    there : b < 0xe0 → (from 0xc0 b ≡ bit (is_lead b)) ↔ ((from 0xe0 b ≡ 0) × (from 0xc0 b ≡ from 0xc2 b))
    there below =
        let narrow : from 0xe0 b ≡ bit false = ap bit (lt-leb 0xe0 b below) in
        let same : bit (is_lead b) ≡ from 0xc2 b = ap (λ (t : Bool). bit (leb 0xc2 b && t)) (lt-ltb b 0xe0 below) ∙ ap bit (and-true (leb 0xc2 b)) in
        (λ e. (narrow, e ∙ same), λ h. h.1 ∙ sym same)

    back : 0xe0 ≤ b → (from 0xc0 b ≡ bit (is_lead b)) ↔ ((from 0xe0 b ≡ 0) × (from 0xc0 b ≡ from 0xc2 b))
    back above =
        let one : from 0xc0 b ≡ bit true = ap bit (le-leb 0xc0 b (omega (arith, above))) in
        let long : from 0xe0 b ≡ bit true = ap bit (le-leb 0xe0 b above) in
        let none : bit (is_lead b) ≡ bit false = ap (λ (t : Bool). bit (leb 0xc2 b && t)) (le-ltb b 0xe0 above) ∙ ap bit (and-false (leb 0xc2 b)) in
        (λ e. absurd (omega (arith, e, one, none)), λ h. absurd (omega (arith, h.0, long)))

leads_are : (bytes : List ℕ) → (marks_from 0xc0 bytes ≡ marks_of_leads bytes) ↔ ((marks_from 0xe0 bytes ≡ 0) × (marks_from 0xc0 bytes ≡ marks_from 0xc2 bytes))
leads_are [] = (λ _. (refl, refl), λ _. refl)
leads_are (b ∷ bs) =
    let here = lead_or_not b in
    let rest = leads_are bs in
    let few = bit_most (leb 0xc0 b) in
    let few_too = bit_most (is_lead b) in
    let few_three = bit_most (leb 0xc2 b) in (
      λ e. (let h = here.0 (omega (arith, e, few, few_too)) in let r = rest.0 (omega (arith, e, few, few_too)) in (omega (arith, h.0, r.0), omega (arith, h.1, r.1))),
      λ h. (let one = here.1 (omega (arith, h.0), omega (arith, h.1, few, few_three)) in let r = rest.1 (omega (arith, h.0), omega (arith, h.1, few, few_three)) in omega (arith, one, r)),
    )

-- where these are all bytes from C0 on, they are all from C2 on
same_leads : (bytes : List ℕ) → marks_from 0xc0 bytes ≡ marks_of_leads bytes → marks_of_leads bytes ≡ marks_from 0xc2 bytes
same_leads bytes same = sym same ∙ ((leads_are bytes).0 same).1

-- as vectors have them: a byte that is itself when it is at least C2 and at most DF
abbrev at_least : ℕ → List ℕ → List ℕ
at_least n xs = sel_l (zip2 ltb xs (replicate n 0xc2)) (replicate n 0xc2) xs

abbrev at_most : ℕ → List ℕ → List ℕ
at_most n xs = sel_l (zip2 ltb xs (replicate n 0xdf)) xs (replicate n 0xdf)

kept : (b : ℕ) → eqb (let m = cond (ltb b 0xc2) 0xc2 b in cond (ltb m 0xdf) m 0xdf) b ≡ is_lead b
kept b = elim (cases_lt b 0xc2) [
  | inl less ↦ rw (lt-ltb b 0xc2 less, lt-leb 0xc2 b less) (ne_eqb 0xc2 b (λ e. omega (arith, less, e)))
  | inr more ↦ elim (cases_lt b 0xdf) [
    | inl below ↦ rw (le-ltb b 0xc2 more, lt-ltb b 0xdf below, le-leb 0xc2 b more, lt-ltb b 0xe0 (omega (arith, below))) (eq-eqb b b refl)
    | inr above ↦ elim (cases_lt b 0xe0) [
      | inl last ↦ rw (le-ltb b 0xc2 more, le-ltb b 0xdf above, le-leb 0xc2 b more, lt-ltb b 0xe0 last) (eq-eqb 0xdf b (omega (arith, above, last)))
      | inr long ↦ rw (le-ltb b 0xc2 more, le-ltb b 0xdf above, le-leb 0xc2 b more, le-ltb b 0xe0 long) (ne_eqb 0xdf b (λ e. omega (arith, long, e)))
    ]
  ]
]

kept_all : (n : ℕ) (xs : List ℕ) → length xs ≡ n → zip2 eqb (at_most n (at_least n xs)) xs ≡ map is_lead xs
kept_all zero [] long = refl
kept_all zero (x ∷ xs) long = absurd (omega (arith, long))
kept_all (suc n) [] long = absurd (omega (arith, long))
kept_all (suc n) (x ∷ xs) long = ap₂ (λ b bs. b ∷ bs) (kept x) (kept_all n xs (omega (arith, long)))

abbrev raised : List ℕ → List ℕ
raised bytes = sel_l (map (top 7) (zip2 (λ a b. cond (ltb a b) 255 0) bytes (replicate 16 0xc2))) (replicate 16 0xc2) bytes

abbrev held : List ℕ → List ℕ
held bytes = sel_l (map (top 7) (zip2 (λ a b. cond (ltb a b) 255 0) bytes (replicate 16 0xdf))) bytes (replicate 16 0xdf)

pub leads_compared : (bytes : List ℕ) → length bytes ≡ 16
    → mask_l (map (top 7) (zip2 (λ a b. cond (eqb a b) 255 0) (held (raised bytes)) bytes)) % 2 ^ 64 ≡ marks_of_leads bytes
leads_compared bytes long =
    ap (λ ms. mask_l ms % 2 ^ 64) (tops_compared w8 eqb (held (raised bytes)) bytes ∙ ap (λ l. zip2 eqb l bytes) clamped ∙ kept_all 16 bytes long)
    ∙ mask_l-mod (map is_lead bytes) 64 (omega (arith, length-map bytes is_lead, long))
  where
    below : (l : List ℕ) → held l ≡ at_most 16 l
    below l = ap (λ ms. sel_l ms l (replicate 16 0xdf)) (tops_compared w8 ltb l (replicate 16 0xdf))

    above : raised bytes ≡ at_least 16 bytes
    above = ap (λ ms. sel_l ms (replicate 16 0xc2) bytes) (tops_compared w8 ltb bytes (replicate 16 0xc2))

    clamped : held (raised bytes) ≡ at_most 16 (at_least 16 bytes)
    clamped = ap held above ∙ below (at_least 16 bytes)

pub leads_bound : (bytes : List ℕ) → length bytes ≡ 16 → marks_of_leads bytes < 2 ^ 16
leads_bound bytes long = mask_bound 16 (map is_lead bytes) (length-map bytes is_lead ∙ long)

-- ---- the bytes from 80 to BF

abbrev other : ℕ → Bool
other b = leb 0x80 b && not (leb 0xc0 b)

one_of_three : (b : ℕ) → from 0x80 b ≡ from 0xc0 b + cond (other b) 1 0
one_of_three b = by_order (leb 0x80 b) (leb 0xc0 b) refl refl
  where
    by_order : (s t : Bool) → leb 0x80 b ≡ s → leb 0xc0 b ≡ t → cond s 1 0 ≡ cond t 1 0 + cond (s && not t) 1 0
    by_order true true e f = refl
    by_order true false e f = refl
    by_order false false e f = refl
    by_order false true e f =
        let below : b < 0x80 = leb-false 0x80 b e in
        let wrong : false ≡ true = sym (lt-leb 0xc0 b (omega (arith, below))) ∙ f in absurd cc

others_are : (bytes : List ℕ) → marks_from 0x80 bytes ≡ marks_from 0xc0 bytes + mask_l (map other bytes)
others_are [] = refl
others_are (b ∷ bs) = omega (arith, one_of_three b, others_are bs)

others_mask : (bytes : List ℕ) → marks_of_others bytes ≡ mask_l (map other bytes)
others_mask bytes = omega (arith, others_are bytes)

-- ---- a mask of the ends, and one of all

record OfEnds (j ends whole : ℕ) : Type 0 where
  first : ends % 256 ≡ whole % 256
  last : ends / 256 ≡ whole / 2 ^ j

module _ (p : ℕ → Bool) where
  of_many : (bytes : List ℕ) → 8 ≤ length bytes
      → OfEnds (length bytes - 8) (mask_l (map p (take 8 bytes ++ drop (length bytes - 8) bytes))) (mask_l (map p bytes))
  of_many bytes many =
      let j = length bytes - 8 in
      let front = mask_l (map p (take 8 bytes)) in
      let back = mask_l (map p (drop j bytes)) in
      let long : length (map p (take 8 bytes)) ≡ 8 = length-map (take 8 bytes) p ∙ omega (arith, length-take 8 bytes, many) in
      let bound : front < 2 ^ 8 = mask_bound 8 (map p (take 8 bytes)) long in
      let joined : (rest : List ℕ) → mask_l (map p (take 8 bytes ++ rest)) ≡ front + mask_l (map p rest) * 2 ^ 8 =
      (λ rest. ap mask_l (map-append p (take 8 bytes) rest) ∙ mask-append (map p (take 8 bytes)) (map p rest) ∙ ap (λ n. front + mask_l (map p rest) * 2 ^ n) long) in
      let whole : mask_l (map p bytes) ≡ front + mask_l (map p (drop 8 bytes)) * 2 ^ 8 =
      ap (λ l. mask_l (map p l)) (sym (take-append-drop 8 bytes)) ∙ joined (drop 8 bytes) in
      let dropped : mask_l (map p bytes) / 2 ^ j ≡ back = mask-drop j (map p bytes) ∙ ap mask_l (drop-map p j bytes) in
      record {
        first = omega (arith, joined (drop j bytes), whole, bound);
        last = omega (arith, joined (drop j bytes), bound) ∙ sym dropped;
      }

  zeros_unmarked : (n : ℕ) → p 0 ≡ false → mask_l (map p (replicate n 0)) ≡ 0
  zeros_unmarked zero off = refl
  zeros_unmarked (suc n) off = ap₂ (λ (b : Bool) (m : ℕ). cond b 1 0 + 2 * m) off (zeros_unmarked n off)

  zeros_after : (bytes : List ℕ) (n : ℕ) → p 0 ≡ false → mask_l (map p (bytes ++ replicate n 0)) ≡ mask_l (map p bytes)
  zeros_after bytes n off =
      ap mask_l (map-append p bytes (replicate n 0))
      ∙ mask-append (map p bytes) (map p (replicate n 0))
      ∙ ap (λ m. mask_l (map p bytes) + m * 2 ^ length (map p bytes)) (zeros_unmarked n off)
      ∙ omega arith

  of_few : (bytes : List ℕ) → p 0 ≡ false → length bytes < 8 → OfEnds 7 (mask_l (map p (bytes ++ replicate (16 - length bytes) 0))) (mask_l (map p bytes))
  of_few bytes off few =
      let n = 7 - length bytes in
      let long : length (bytes ++ replicate n 0) ≡ 7 = length-append bytes (replicate n 0) ∙ omega (arith, length-replicate {A = ℕ} n 0, few) in
      let bound : mask_l (map p (bytes ++ replicate n 0)) < 2 ^ 7 = mask_bound 7 (map p (bytes ++ replicate n 0)) (length-map (bytes ++ replicate n 0) p ∙ long) in
      let small : mask_l (map p bytes) < 2 ^ 7 = omega (arith, bound, zeros_after bytes n off) in
      let same = zeros_after bytes (16 - length bytes) off in
      record { first = ap (λ m. m % 256) same; last = omega (arith, same, small) }

-- ---- what the numbers say of each other

coarser : (j n : ℕ) → j ≤ 7 → n / 2 ^ 7 ≡ n / 2 ^ j / 2 ^ (7 - j)
coarser j n few =
    let sum : j + (7 - j) ≡ 7 = omega (arith, few) in
    sym (shr-shr n j (7 - j) ∙ ap (λ k. n / 2 ^ k) sum)

same_whole : (j a b whole other : ℕ) → j ≤ 7 → OfEnds j a whole → OfEnds j b other → a ≡ b → whole ≡ other
same_whole j a b whole other few one two same =
    let last : whole / 2 ^ j ≡ other / 2 ^ j = sym one.last ∙ ap (λ n. n / 256) same ∙ two.last in
    let rest : whole / 2 ^ 7 ≡ other / 2 ^ 7 = coarser j whole few ∙ ap (λ n. n / 2 ^ (7 - j)) last ∙ sym (coarser j other few) in
    omega (arith, rest, one.first, two.first, same)

same_parts : (j a b whole other : ℕ) → OfEnds j a whole → OfEnds j b other → whole ≡ other → a ≡ b
same_parts j a b whole other one two same =
    let last : a / 256 ≡ b / 256 = one.last ∙ ap (λ n. n / 2 ^ j) same ∙ sym two.last in
    omega (arith, last, one.first, two.first, same)

nothing : (j : ℕ) → OfEnds j 0 0
nothing j = record { first = refl; last = sym (zero-div (2 ^ j)) }

-- each bit of `whole` is one place before that of `other`
follows : (j a b whole other : ℕ) → j ≤ 7 → OfEnds j a whole → OfEnds j b other
    → ((2 * a % 256 ≡ b % 256) × (a / 256 ≡ b / 512)) ↔ (2 * whole ≡ other)
follows j a b whole other few one two = (λ h. there h.0 h.1, λ e. (omega (arith, one.first, two.first, e), back e))
  where
    halved : (n : ℕ) → n / 2 ^ j / 2 ^ 1 ≡ n / 2 ^ 1 / 2 ^ j
    halved n =
        let turned : j + 1 ≡ 1 + j = omega arith in
        shr-shr n j 1 ∙ ap (λ k. n / 2 ^ k) turned ∙ sym (shr-shr n 1 j)

    there : 2 * a % 256 ≡ b % 256 → a / 256 ≡ b / 512 → 2 * whole ≡ other
    there first last =
        let half : b / 512 ≡ b / 256 / 2 ^ 1 = omega arith in
        let at : whole / 2 ^ j ≡ other / 2 ^ 1 / 2 ^ j = sym one.last ∙ last ∙ half ∙ ap (λ n. n / 2 ^ 1) two.last ∙ halved other in
        let rest : whole / 2 ^ 7 ≡ other / 2 ^ 1 / 2 ^ 7 =
        coarser j whole few ∙ ap (λ n. n / 2 ^ (7 - j)) at ∙ sym (coarser j (other / 2 ^ 1) few) in
        omega (arith, rest, first, one.first, two.first)

    back : 2 * whole ≡ other → a / 256 ≡ b / 512
    back e =
        let half : b / 512 ≡ b / 256 / 2 ^ 1 = omega arith in
        let is : whole ≡ other / 2 ^ 1 = omega (arith, e) in
        one.last ∙ ap (λ n. n / 2 ^ j) is ∙ sym (halved other) ∙ sym (ap (λ n. n / 2 ^ 1) two.last) ∙ sym half

-- ---- the ends, and all bytes

module _ (bytes ends : List ℕ) (j : ℕ) (few : j ≤ 7) (of : (p : ℕ → Bool) → p 0 ≡ false → OfEnds j (mask_l (map p ends)) (mask_l (map p bytes))) where
  judged : EndsAgree ends ↔ (IsUtf8 bytes × AreNarrow bytes)
  judged = (λ agree. there agree, λ both. back both.0 both.1)
    where
      long : OfEnds j (marks_from 0xe0 ends) (marks_from 0xe0 bytes)
      long = of (leb 0xe0) refl

      starts : OfEnds j (marks_from 0xc0 ends) (marks_from 0xc0 bytes)
      starts = of (leb 0xc0) refl

      leads : OfEnds j (marks_from 0xc2 ends) (marks_from 0xc2 bytes)
      leads = of (leb 0xc2) refl

      others : OfEnds j (mask_l (map other ends)) (mask_l (map other bytes))
      others = of other refl

      in_turn : ((2 * marks_from 0xc2 ends % 256 ≡ mask_l (map other ends) % 256) × (marks_from 0xc2 ends / 256 ≡ mask_l (map other ends) / 512))
          ↔ (2 * marks_from 0xc2 bytes ≡ mask_l (map other bytes))
      in_turn = follows j (marks_from 0xc2 ends) (mask_l (map other ends)) (marks_from 0xc2 bytes) (mask_l (map other bytes)) few leads others

      there : EndsAgree ends → IsUtf8 bytes × AreNarrow bytes
      there agree =
          let narrow : marks_from 0xe0 bytes ≡ 0 = same_whole j (marks_from 0xe0 ends) 0 (marks_from 0xe0 bytes) 0 few long (nothing j) agree.narrow in
          let none = same_whole j (marks_from 0xc0 ends) (marks_from 0xc2 ends) (marks_from 0xc0 bytes) (marks_from 0xc2 bytes) few starts leads agree.none in
          let is = others_mask ends in
          let follow = in_turn.0 (agree.first ∙ ap (λ n. n % 256) is, agree.last ∙ ap (λ n. n / 512) is) in
          ((few-IsUtf8 bytes narrow).0 (none, omega (arith, follow, others_are bytes)), (narrow_marks bytes).0 narrow)

      back : IsUtf8 bytes → AreNarrow bytes → EndsAgree ends
      back text are =
          let narrow = (narrow_marks bytes).1 are in
          let marks = (few-IsUtf8 bytes narrow).1 text in
          let is = others_mask ends in
          let follow = in_turn.1 (omega (arith, marks.1, others_are bytes)) in
          record {
            narrow = same_parts j (marks_from 0xe0 ends) 0 (marks_from 0xe0 bytes) 0 long (nothing j) narrow;
            none = same_parts j (marks_from 0xc0 ends) (marks_from 0xc2 ends) (marks_from 0xc0 bytes) (marks_from 0xc2 bytes) starts leads marks.0;
            first = follow.0 ∙ sym (ap (λ n. n % 256) is);
            last = follow.1 ∙ sym (ap (λ n. n / 512) is);
          }

pub ends_judged : (bytes ends : List ℕ) → length bytes ≤ 15 → AreEnds bytes ends → EndsAgree ends ↔ (IsUtf8 bytes × AreNarrow bytes)
ends_judged bytes ends short are = elim (cases_lt (length bytes) 8) [
  | inl less ↦ judged bytes ends 7 (omega arith) (λ p off. subst (λ l. OfEnds 7 (mask_l (map p l)) (mask_l (map p bytes))) (sym (are.few less)) (of_few p bytes off less))
  | inr more ↦ judged bytes ends (length bytes - 8) (omega (arith, short)) (λ p off. subst (λ l. OfEnds (length bytes - 8) (mask_l (map p l)) (mask_l (map p bytes))) (sym (are.many more)) (of_many p bytes more))
]

pub zeros_agree : EndsAgree (replicate 16 0)
zeros_agree = record { narrow = refl; none = refl; first = refl; last = refl }

-- ---- two texts, by numbers with 32 bits for each

module _ (one two : List ℕ) (starts leads high : ℕ) (long : length one ≡ 16) (long_too : length two ≡ 16)
    (starts_are : starts ≡ marks_from 0xc0 one + marks_from 0xc0 two * 2 ^ 32)
    (leads_is : leads ≡ marks_of_leads one + marks_of_leads two * 2 ^ 32)
    (leads_small : marks_of_leads one < 2 ^ 16) (leads_small_too : marks_of_leads two < 2 ^ 16)
    (high_are : high ≡ marks_from 0x80 one + marks_from 0x80 two * 2 ^ 32) where
  abbrev Alone : Type 0
  Alone = bit_and (bit_xor (2 * leads) (high - starts)) 18446742974197923583 ≡ 0

  pub two_judged : IsTrue (nat_eq starts leads && nat_eq (bit_and (bit_xor (2 * leads) (high - starts)) 18446742974197923583) 0) ↔ (EndsAgree one × EndsAgree two)
  two_judged = (
    λ t. (let h = and_parts (nat_eq starts leads) (nat_eq (bit_and (bit_xor (2 * leads) (high - starts)) 18446742974197923583) 0) t in
        there (eqb-true starts leads h.0) (eqb-true (bit_and (bit_xor (2 * leads) (high - starts)) 18446742974197923583) 0 h.1)),
    λ both. (let h = back both.0 both.1 in
        and_from (nat_eq starts leads) (nat_eq (bit_and (bit_xor (2 * leads) (high - starts)) 18446742974197923583) 0)
        (eq-eqb starts leads h.0) (eq-eqb (bit_and (bit_xor (2 * leads) (high - starts)) 18446742974197923583) 0 h.1)),
  )
    where
      small : (least : ℕ) → marks_from least one < 2 ^ 16
      small least = from_bound least one long

      small_too : (least : ℕ) → marks_from least two < 2 ^ 16
      small_too least = from_bound least two long_too

      known : Alone ↔ (Same (2 * marks_of_leads one) (marks_of_others one) × Same (2 * marks_of_leads two) (marks_of_others two))
      known =
          let doubled : 2 * leads ≡ 2 * marks_of_leads one + 2 * marks_of_leads two * 2 ^ 32 = omega (arith, leads_is) in
          let others : high - starts ≡ marks_of_others one + marks_of_others two * 2 ^ 32 =
          omega (arith, high_are, starts_are, falls_all 0x80 0xc0 one (omega arith), falls_all 0x80 0xc0 two (omega arith)) in
          let parts = ap (λ n. bit_and n 18446742974197923583) (ap₂ bit_xor doubled others) in
          let same = same_known (2 * marks_of_leads one) (2 * marks_of_leads two) (marks_of_others one) (marks_of_others two)
          (omega (arith, leads_small)) (omega (arith, leads_small_too)) (omega (arith, small 0x80)) (omega (arith, small_too 0x80)) in
          (λ e. same.0 (sym parts ∙ e), λ h. parts ∙ same.1 h)

      agree : (bytes : List ℕ) → marks_from 0xc0 bytes ≡ marks_of_leads bytes → Same (2 * marks_of_leads bytes) (marks_of_others bytes) → EndsAgree bytes
      agree bytes same others =
          let parts = (leads_are bytes).0 same in
          let is = same_leads bytes same in
          record { narrow = parts.0; none = parts.1; first = omega (arith, others.0, is); last = omega (arith, others.1, is) }

      there : starts ≡ leads → Alone → EndsAgree one × EndsAgree two
      there same none =
          let k = known.0 none in (
            agree one (omega (arith, same, starts_are, leads_is, small 0xc0, leads_small)) k.0,
            agree two (omega (arith, same, starts_are, leads_is, small 0xc0, leads_small)) k.1,
          )

      leads_of : (bytes : List ℕ) → EndsAgree bytes → marks_from 0xc0 bytes ≡ marks_of_leads bytes
      leads_of bytes it = (leads_are bytes).1 (it.narrow, it.none)

      others_of : (bytes : List ℕ) → EndsAgree bytes → Same (2 * marks_of_leads bytes) (marks_of_others bytes)
      others_of bytes it =
          let is = same_leads bytes (leads_of bytes it) in
          (omega (arith, it.first, is), omega (arith, it.last, is))

      back : EndsAgree one → EndsAgree two → (starts ≡ leads) × Alone
      back it it_too = (omega (arith, starts_are, leads_is, leads_of one it, leads_of two it_too), known.1 (others_of one it, others_of two it_too))
