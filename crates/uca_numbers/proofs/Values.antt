-- The values of digits, and numbers without leading zeros.
use Rattle.std.proofs.Common.{◌≡◌, ℕ, suc, ◌+◌, ◌*◌, ◌-◌, ◌^◌, ◌<◌, ◌≤◌, List, [], ◌∷◌, length, map, Bool, true, false, cond, nat_eq, refl, sym, ap, ap₂, ◌∙◌, arith}
use Rattle.std.specs.List.{AllByRecursion}
use Rattle.std.specs.Ordering.{nat_cmp, ordering_then}
use Rattle.std.specs.Cmp.Lexicographic.{slice_cmp}
use Rattle.std.proofs.lemmas.Bool.Decides.{nat_tests}
use Rattle.std.proofs.Math.Nat.{pow-succ', mul-le-mul_right, pow-le-pow_right}
use Rattle.uca_numbers.specs.Numbers.{IsDigit, value, significant}
use Rattle.uca_numbers.specs.Laws.{RisesOnDigits}
use Rattle.uca_numbers.proofs.Orders.{cmp_equal, rising_cmp, digits_cmp}

-- ---- Values

-- so many digits have a value below that power of ten
pub value_below : (digits : List ℕ) → AllByRecursion IsDigit digits → value digits < 10 ^ length digits
value_below [] all = omega arith
value_below (c ∷ more) all =
    let high : c ≤ 0x39 = all.0.high in
    let digit : c - 0x30 ≤ 9 = omega (arith, high) in
    let product : (c - 0x30) * 10 ^ length more ≤ 9 * 10 ^ length more = mul-le-mul_right (10 ^ length more) digit in
    let rest : value more < 10 ^ length more = value_below more all.1 in
    let power : 10 ^ suc (length more) ≡ 10 * 10 ^ length more = pow-succ' 10 (length more) in
    omega (arith, product, rest, power)

-- and no less than the power before, if the first is no zero
value_from : (c : ℕ) (more : List ℕ) → 0x30 < c → 10 ^ length more ≤ value (c ∷ more)
value_from c more first =
    let one : 1 ≤ c - 0x30 = omega (arith, first) in
    let product : 1 * 10 ^ length more ≤ (c - 0x30) * 10 ^ length more = mul-le-mul_right (10 ^ length more) one in
    omega (arith, product)

-- so more digits have a greater value
pub fewer_less : (digits : List ℕ) (d : ℕ) (more : List ℕ) → AllByRecursion IsDigit digits → 0x30 < d → length digits < length (d ∷ more) →
    value digits < value (d ∷ more)
fewer_less digits d more all first fewer =
    let small : value digits < 10 ^ length digits = value_below digits all in
    let fits : length digits ≤ length more = omega (arith, fewer) in
    let power : 10 ^ length digits ≤ 10 ^ length more = pow-le-pow_right (omega arith) fits in
    let great : 10 ^ length more ≤ value (d ∷ more) = value_from d more first in
    omega (arith, small, power, great)

-- as many digits compare by their values
pub as_many_cmp : (weight : ℕ → ℕ) → RisesOnDigits weight → (xs ys : List ℕ) → AllByRecursion IsDigit xs → AllByRecursion IsDigit ys → length xs ≡ length ys →
    slice_cmp nat_cmp (map weight xs) (map weight ys) ≡ nat_cmp (value xs) (value ys)
as_many_cmp weight rises [] [] all others same = sym (cmp_equal 0 0 refl)
as_many_cmp weight rises [] (y ∷ ys) all others same = absurd (omega (arith, same))
as_many_cmp weight rises (x ∷ xs) [] all others same = absurd (omega (arith, same))
as_many_cmp weight rises (x ∷ xs) (y ∷ ys) all others same =
    let rest : length xs ≡ length ys = omega (arith, same) in
    let low : 0x30 ≤ x = all.0.low in
    let other : 0x30 ≤ y = others.0.low in
    let first : nat_cmp (weight x) (weight y) ≡ nat_cmp (x - 0x30) (y - 0x30) =
    rising_cmp (x - 0x30) (y - 0x30) (weight x) (weight y)
    (λ less. rises x y all.0 others.0 (omega (arith, less))) (λ equal. ap weight (omega (arith, equal, low, other))) (λ greater. rises y x others.0 all.0 (omega (arith, greater))) in
    let below : value ys < 10 ^ length xs = omega (arith, value_below ys others.1, ap (λ n. 10 ^ n) rest) in
    ap₂ ordering_then first (as_many_cmp weight rises xs ys all.1 others.1 rest)
    ∙ sym (digits_cmp (10 ^ length xs) (x - 0x30) (y - 0x30) (value xs) (value ys) (value_below xs all.1) below)
    ∙ ap (λ n. nat_cmp (value (x ∷ xs)) ((y - 0x30) * 10 ^ n + value ys)) rest

-- ---- Leading zeros

-- what is left of a number without leading zeros
pub record IsTrimmed (number digits : List ℕ) : Type 0 where
  pub first : ℕ
  pub more : List ℕ
  pub same : digits ≡ first ∷ more
  pub all : AllByRecursion IsDigit (first ∷ more)
  pub leads : 0 < length more → 0x30 < first
  pub value : value number ≡ value (first ∷ more)

pub trimmed : (c : ℕ) (more : List ℕ) → AllByRecursion IsDigit (c ∷ more) → IsTrimmed (c ∷ more) (significant (c ∷ more))
trimmed c [] all = record { first = c; more = []; same = refl; all = all; leads = λ some. absurd (omega (arith, some)); value = refl }
trimmed c (d ∷ more) all = step (trimmed d more all.1) (nat_eq c 0x30) refl
  where
    step : IsTrimmed (d ∷ more) (significant (d ∷ more)) → (zero_first : Bool) → zero_first ≡ nat_eq c 0x30 →
        IsTrimmed (c ∷ d ∷ more) (cond zero_first (significant (d ∷ more)) (c ∷ d ∷ more))
    step rest true e =
        let is : c ≡ 0x30 = grind (arith, nat_tests, e) in
        let none : (c - 0x30) * 10 ^ length (d ∷ more) ≡ 0 * 10 ^ length (d ∷ more) = ap (λ n. (n - 0x30) * 10 ^ length (d ∷ more)) is in
        let less : value (c ∷ d ∷ more) ≡ value (d ∷ more) = omega (arith, none) in
        record { first = rest.first; more = rest.more; same = rest.same; all = rest.all; leads = rest.leads; value = less ∙ rest.value }
    step rest false e =
        let low : 0x30 ≤ c = all.0.low in
        record { first = c; more = d ∷ more; same = refl; all = all; leads = λ some. grind (arith, nat_tests, e, low); value = refl }
