-- Counts of elements that stay at 2^64 - 1 once they are there.
use Rattle.std.proofs.Common.{◌≡◌, ℕ, zero, suc, ◌+◌, ◌<◌, ◌≤◌, List, [], ◌∷◌, ◌++◌, length, length-append, min, refl, ap, arith}
use Rattle.uca_weights.specs.declared.Element.{Element}
use Rattle.uca_comparison.specs.Fronts.{counted}

counted_some : (n k : ℕ) → 0 < k → counted n k ≡ min 18446744073709551615 (n + k)
counted_some n zero some = absurd (omega (arith, some))
counted_some n (suc k) some = refl

pub counted_more : (n a b : ℕ) → counted (counted n a) b ≡ counted n (a + b)
counted_more n zero b = let e : b ≡ 0 + b = omega arith in ap (counted n) e
counted_more n (suc a) zero = let e : suc a ≡ suc a + 0 = omega arith in ap (counted n) e
counted_more n (suc a) (suc b) =
    let one = counted_some n (suc a) (omega arith) in
    let all = counted_some n (suc a + suc b) (omega arith) in
    omega (arith, one, all)

pub counted_small : (k : ℕ) → counted 0 k ≤ 18446744073709551615
counted_small zero = omega arith
counted_small (suc k) = omega arith

pub counted_from_none : (n : ℕ) → counted 0 n ≡ min 18446744073709551615 n
counted_from_none zero = omega arith
counted_from_none (suc n) = omega arith

-- a count that saturates
pub counted_is : (n k : ℕ) → n ≤ 18446744073709551615 → min (n + k) 18446744073709551615 ≡ counted n k
counted_is n zero small = omega arith
counted_is n (suc k) small = omega arith

-- one more element
pub count_one : (es : List Element) (e : Element) (count count1 : ℕ) → count ≡ counted 0 (length es) → count1 ≡ min (count + 1) 18446744073709551615
    → count1 ≡ counted 0 (length (es ++ e ∷ []))
count_one es e count count1 is is_more =
    let before = counted_from_none (length es) in
    let after = counted_from_none (length (es ++ e ∷ [])) in
    let all = length-append es (e ∷ []) in
    omega (arith, is, is_more, before, after, all)
