-- How numbers and lists of them compare.
use Rattle.std.proofs.Common.{◌≡◌, ℕ, suc, ◌+◌, ◌*◌, ◌<◌, ◌≤◌, List, [], ◌∷◌, ◌++◌, length, refl, sym, ap, ◌∙◌, arith}
use Rattle.std.specs.Ordering.{nat_cmp, ordering_then, ordering_reverse}
use Rattle.std.specs.Cmp.Lexicographic.{slice_cmp}
use Rattle.std.specs.declared.cmp.Ordering.{Ordering}
use Rattle.std.specs.declared.cmp.Ordering.TheVariants.{Less, Equal, Greater}
use Rattle.std.proofs.lemmas.Cmp.{ranked, by_ranked, nat_list_cmp_total}
use Rattle.std.proofs.lemmas.Bool.Decides.{nat_tests}
use Rattle.std.proofs.Math.Nat.{mul-le-mul_right, suc-mul}

-- ---- Numbers

pub cmp_less : (v w : ℕ) → v < w → nat_cmp v w ≡ Less
cmp_less v w h = grind (arith, nat_tests)

pub cmp_equal : (v w : ℕ) → v ≡ w → nat_cmp v w ≡ Equal
cmp_equal v w h = grind (arith, nat_tests)

pub cmp_greater : (v w : ℕ) → w < v → nat_cmp v w ≡ Greater
cmp_greater v w h = grind (arith, nat_tests)

pub equal_from_cmp : (v w : ℕ) → nat_cmp v w ≡ Equal → v ≡ w
equal_from_cmp v w h = grind (arith, nat_tests)

-- cases of two numbers
pub by_cmp : {P : Type 0} (v w : ℕ) → (v < w → P) → (v ≡ w → P) → (w < v → P) → P
by_cmp v w less equal greater =
    by_ranked (v < w) (v ≡ w) (w < v) (nat_cmp v w) (ranked v w (nat_cmp v w) refl) (λ e h. less h) (λ e h. equal h) (λ e h. greater h)

-- numbers that rise with others compare as these
pub rising_cmp : (v w x y : ℕ) → (v < w → x < y) → (v ≡ w → x ≡ y) → (w < v → y < x) → nat_cmp x y ≡ nat_cmp v w
rising_cmp v w x y less equal greater =
    by_cmp v w
    (λ h. cmp_less x y (less h) ∙ sym (cmp_less v w h))
    (λ h. cmp_equal x y (equal h) ∙ sym (cmp_equal v w h))
    (λ h. cmp_greater x y (greater h) ∙ sym (cmp_greater v w h))

-- below p the greater digit before decides
digit_less : (p x y v w : ℕ) → x < y → v < p → x * p + v < y * p + w
digit_less p x y v w less small =
    let product : suc x * p ≤ y * p = mul-le-mul_right p less in
    let one_more : suc x * p ≡ x * p + p = suc-mul x p in
    omega (arith, product, one_more, small)

-- numbers in a base compare by the first digit, and then by the rest
pub digits_cmp : (p x y v w : ℕ) → v < p → w < p → nat_cmp (x * p + v) (y * p + w) ≡ ordering_then (nat_cmp x y) (nat_cmp v w)
digits_cmp p x y v w small other =
    by_cmp x y
    (λ h. cmp_less (x * p + v) (y * p + w) (digit_less p x y v w h small) ∙ sym (ap (λ o. ordering_then o (nat_cmp v w)) (cmp_less x y h)))
    (λ h. let same : x * p ≡ y * p = ap (λ n. n * p) h in
    rising_cmp v w (x * p + v) (y * p + w) (λ l. omega (arith, l, same)) (λ e. omega (arith, e, same)) (λ g. omega (arith, g, same))
    ∙ sym (ap (λ o. ordering_then o (nat_cmp v w)) (cmp_equal x y h)))
    (λ h. cmp_greater (x * p + v) (y * p + w) (digit_less p y x w v h other) ∙ sym (ap (λ o. ordering_then o (nat_cmp v w)) (cmp_greater x y h)))

-- ---- Lists

-- of three orders the first that decides does
then_assoc : (a b c : Ordering) → ordering_then (ordering_then a b) c ≡ ordering_then a (ordering_then b c)
then_assoc Less b c = refl
then_assoc Equal b c = refl
then_assoc Greater b c = refl

-- lists that begin alike compare by what follows
pub same_head : (x : ℕ) (xs ys : List ℕ) → slice_cmp nat_cmp (x ∷ xs) (x ∷ ys) ≡ slice_cmp nat_cmp xs ys
same_head x xs ys = ap (λ o. ordering_then o (slice_cmp nat_cmp xs ys)) (cmp_equal x x refl)

-- lists that begin otherwise compare by that
pub less_head : (x y : ℕ) (xs ys : List ℕ) → x < y → slice_cmp nat_cmp (x ∷ xs) (y ∷ ys) ≡ Less
less_head x y xs ys h = ap (λ o. ordering_then o (slice_cmp nat_cmp xs ys)) (cmp_less x y h)

-- lists of one length compare, and then what comes after them
pub append_cmp : (xs ys s t : List ℕ) → length xs ≡ length ys →
    slice_cmp nat_cmp (xs ++ s) (ys ++ t) ≡ ordering_then (slice_cmp nat_cmp xs ys) (slice_cmp nat_cmp s t)
append_cmp [] [] s t h = refl
append_cmp [] (y ∷ ys) s t h = absurd (omega (arith, h))
append_cmp (x ∷ xs) [] s t h = absurd (omega (arith, h))
append_cmp (x ∷ xs) (y ∷ ys) s t h =
    ap (ordering_then (nat_cmp x y)) (append_cmp xs ys s t (omega (arith, h)))
    ∙ sym (then_assoc (nat_cmp x y) (slice_cmp nat_cmp xs ys) (slice_cmp nat_cmp s t))

-- the other way round
pub greater_from_less : (xs ys : List ℕ) → slice_cmp nat_cmp ys xs ≡ Less → slice_cmp nat_cmp xs ys ≡ Greater
greater_from_less xs ys h = nat_list_cmp_total.antisymm xs ys ∙ ap ordering_reverse h
