-- UTF-8 keeps the order of code points.
use Rattle.std.proofs.Common.{◌≡◌, ◌⊎◌, inl, inr, ℕ, ◌+◌, ◌/◌, ◌%◌, ◌<◌, ◌≤◌, List, [], ◌∷◌, ◌++◌, Bool, true, false, cond, nat_lt, refl, ap, sym, subst, ◌∙◌, arith, encode_utf8, encode_utf8_all}
use Rattle.std.specs.Ordering.{nat_cmp, ordering_then}
use Rattle.std.specs.declared.cmp.Ordering.{Ordering}
use Rattle.std.specs.declared.cmp.Ordering.TheVariants.{Less, Equal, Greater}
use Rattle.std.proofs.lemmas.Bool.Decides.{nat_tests}
use Rattle.uca_order.specs.Levels.{lexicographic}
use Rattle.uca_compact.proofs.Below.{IsBelow, below_append, below_after, below_less, lexicographic_after}
use Rattle.uca_compact.proofs.LevelsOrder.{less_turned}

-- a byte of six bits
abbrev tail : ℕ → ℕ
tail n = 128 + n % 64

-- of two numbers the last six bits decide only where the bits before them are equal
six : (a b : ℕ) → a < b → (a / 64 < b / 64) ⊎ ((a / 64 ≡ b / 64) × (a % 64 < b % 64))
six a b h =
    let high : (a / 64 < b / 64) ⊎ (a / 64 ≡ b / 64) = grind arith in
    elim high [ inl less ↦ inl less | inr same ↦ inr (same, omega arith) ]

-- six more bits, by the order of the bytes before them
longer : (front back : List ℕ) (a b : ℕ) → a < b → (a / 64 < b / 64 → IsBelow front back) → (a / 64 ≡ b / 64 → front ≡ back)
    → IsBelow (front ++ tail a ∷ []) (back ++ tail b ∷ [])
longer front back a b h less same =
    elim (six a b h) [
      | inl lt ↦ below_append front back (tail a ∷ []) (tail b ∷ []) (less lt)
      | inr eq ↦ subst (λ (bytes : List ℕ). IsBelow (front ++ tail a ∷ []) (bytes ++ tail b ∷ [])) (same eq.0)
          (below_after front (tail a ∷ []) (tail b ∷ []) (inl (omega (arith, eq.1))))
    ]

-- two bytes, three and four: the first has the highest bits
abbrev two_of : ℕ → ℕ → List ℕ
two_of k n = (k + n / 64) ∷ tail n ∷ []

abbrev three_of : ℕ → ℕ → List ℕ
three_of k n = (k + n / 4096) ∷ tail (n / 64) ∷ tail n ∷ []

abbrev four_of : ℕ → ℕ → List ℕ
four_of k n = (k + n / 262144) ∷ tail (n / 4096) ∷ tail (n / 64) ∷ tail n ∷ []

-- they are those of the higher bits, and one more
three_is : (k n : ℕ) → three_of k n ≡ two_of k (n / 64) ++ tail n ∷ []
three_is k n = let e : n / 4096 ≡ n / 64 / 64 = omega arith in ap (λ (m : ℕ). (k + m) ∷ tail (n / 64) ∷ tail n ∷ []) e

four_is : (k n : ℕ) → four_of k n ≡ three_of k (n / 64) ++ tail n ∷ []
four_is k n =
    let e : n / 262144 ≡ n / 64 / 4096 = omega arith in
    let m : n / 4096 ≡ n / 64 / 64 = omega arith in
    ap (λ (x : ℕ). (k + x) ∷ tail (n / 4096) ∷ tail (n / 64) ∷ tail n ∷ []) e
    ∙ ap (λ (x : ℕ). (k + n / 64 / 4096) ∷ tail x ∷ tail (n / 64) ∷ tail n ∷ []) m

-- by what two lists are
below_as : {xs ys vs ws : List ℕ} → xs ≡ vs → ys ≡ ws → IsBelow vs ws → IsBelow xs ys
below_as {xs} {ys} {vs} {ws} left right h = subst (λ (bytes : List ℕ). IsBelow bytes ys) (sym left) (subst (λ (bytes : List ℕ). IsBelow vs bytes) (sym right) h)

two : (k a b : ℕ) → a < b → IsBelow (two_of k a) (two_of k b)
two k a b h = longer ((k + a / 64) ∷ []) ((k + b / 64) ∷ []) a b h (λ less. inl (omega arith)) (λ same. ap (λ (n : ℕ). (k + n) ∷ []) same)

three : (k a b : ℕ) → a < b → IsBelow (three_of k a) (three_of k b)
three k a b h =
    below_as (three_is k a) (three_is k b) (longer (two_of k (a / 64)) (two_of k (b / 64)) a b h (two k (a / 64) (b / 64)) (λ same. ap (two_of k) same))

four : (k a b : ℕ) → a < b → IsBelow (four_of k a) (four_of k b)
four k a b h =
    below_as (four_is k a) (four_is k b) (longer (three_of k (a / 64)) (three_of k (b / 64)) a b h (three k (a / 64) (b / 64)) (λ same. ap (three_of k) same))

-- the bytes of a code point, by the tests on its size
abbrev coded : Bool → Bool → Bool → ℕ → List ℕ
coded one_byte two_bytes three_bytes c = cond one_byte (c ∷ []) (cond two_bytes (two_of 192 c) (cond three_bytes (three_of 224 c) (four_of 240 c)))

-- the bytes of a lesser one are below
coded_below : (a b : ℕ) → a < b → (o p q r s t : Bool) → nat_lt a 128 ≡ o → nat_lt a 2048 ≡ p → nat_lt a 65536 ≡ q → nat_lt b 128 ≡ r → nat_lt b 2048 ≡ s → nat_lt b 65536 ≡ t
    → IsBelow (coded o p q a) (coded r s t b)
coded_below a b h true p q true s t ho hp hq hr hs ht = inl h
coded_below a b h true p q false true t ho hp hq hr hs ht = inl (let lt : a < 128 = grind (arith, nat_tests) in omega arith)
coded_below a b h true p q false false true ho hp hq hr hs ht = inl (let lt : a < 128 = grind (arith, nat_tests) in omega arith)
coded_below a b h true p q false false false ho hp hq hr hs ht = inl (let lt : a < 128 = grind (arith, nat_tests) in omega arith)
coded_below a b h false p q true s t ho hp hq hr hs ht = absurd (let le : 128 ≤ a = grind (arith, nat_tests) in let lt : b < 128 = grind (arith, nat_tests) in omega arith)
coded_below a b h false true q false true t ho hp hq hr hs ht = two 192 a b h
coded_below a b h false true q false false true ho hp hq hr hs ht = inl (let lt : a < 2048 = grind (arith, nat_tests) in omega arith)
coded_below a b h false true q false false false ho hp hq hr hs ht = inl (let lt : a < 2048 = grind (arith, nat_tests) in omega arith)
coded_below a b h false false q false true t ho hp hq hr hs ht = absurd (let le : 2048 ≤ a = grind (arith, nat_tests) in let lt : b < 2048 = grind (arith, nat_tests) in omega arith)
coded_below a b h false false true false false true ho hp hq hr hs ht = three 224 a b h
coded_below a b h false false true false false false ho hp hq hr hs ht = inl (let lt : a < 65536 = grind (arith, nat_tests) in omega arith)
coded_below a b h false false false false false true ho hp hq hr hs ht = absurd (let le : 65536 ≤ a = grind (arith, nat_tests) in let lt : b < 65536 = grind (arith, nat_tests) in omega arith)
coded_below a b h false false false false false false ho hp hq hr hs ht = four 240 a b h

encode_is : (c : ℕ) → encode_utf8 c ≡ coded (nat_lt c 128) (nat_lt c 2048) (nat_lt c 65536) c
unfolding lib.Utf8.encode
encode_is c = refl

point_below : (a b : ℕ) → a < b → IsBelow (encode_utf8 a) (encode_utf8 b)
point_below a b h =
    rw (encode_is a, encode_is b)
    (coded_below a b h (nat_lt a 128) (nat_lt a 2048) (nat_lt a 65536) (nat_lt b 128) (nat_lt b 2048) (nat_lt b 65536) refl refl refl refl refl refl)

-- there is a byte for each code point
some_by : (o p q : Bool) (c : ℕ) → (b : ℕ) × (rest : List ℕ) × (coded o p q c ≡ b ∷ rest)
some_by true p q c = (c, [], refl)
some_by false true q c = (192 + c / 64, tail c ∷ [], refl)
some_by false false true c = (224 + c / 4096, tail (c / 64) ∷ tail c ∷ [], refl)
some_by false false false c = (240 + c / 262144, tail (c / 4096) ∷ tail (c / 64) ∷ tail c ∷ [], refl)

some_byte : (c : ℕ) → (b : ℕ) × (rest : List ℕ) × (encode_utf8 c ≡ b ∷ rest)
some_byte c = let found = some_by (nat_lt c 128) (nat_lt c 2048) (nat_lt c 65536) c in (found.0, found.1, encode_is c ∙ found.2)

point_by : (a b : ℕ) (xs ys : List ℕ) (o : Ordering) → nat_cmp a b ≡ o → lexicographic (encode_utf8 a ++ xs) (encode_utf8 b ++ ys) ≡ ordering_then o (lexicographic xs ys)
point_by a b xs ys Less is =
    below_less (encode_utf8 a ++ xs) (encode_utf8 b ++ ys) (below_append (encode_utf8 a) (encode_utf8 b) xs ys (point_below a b (grind (arith, nat_tests))))
point_by a b xs ys Equal is =
    let same : a ≡ b = grind (arith, nat_tests) in
    subst (λ (c : ℕ). lexicographic (encode_utf8 a ++ xs) (encode_utf8 c ++ ys) ≡ lexicographic xs ys) same (lexicographic_after (encode_utf8 a) xs ys)
point_by a b xs ys Greater is =
    less_turned (encode_utf8 b ++ ys) (encode_utf8 a ++ xs) (below_less (encode_utf8 b ++ ys) (encode_utf8 a ++ xs)
    (below_append (encode_utf8 b) (encode_utf8 a) ys xs (point_below b a (grind (arith, nat_tests)))))

-- bytes compare as the code points
pub points_order : (ps qs : List ℕ) → lexicographic (encode_utf8_all ps) (encode_utf8_all qs) ≡ lexicographic ps qs
points_order [] [] = refl
points_order [] (q ∷ qs) = let found = some_byte q in ap (λ (bytes : List ℕ). lexicographic [] (bytes ++ encode_utf8_all qs)) found.2
points_order (p ∷ ps) [] = let found = some_byte p in ap (λ (bytes : List ℕ). lexicographic (bytes ++ encode_utf8_all ps) []) found.2
points_order (p ∷ ps) (q ∷ qs) =
    point_by p q (encode_utf8_all ps) (encode_utf8_all qs) (nat_cmp p q) refl ∙ ap (ordering_then (nat_cmp p q)) (points_order ps qs)
