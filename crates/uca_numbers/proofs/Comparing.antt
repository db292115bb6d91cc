-- Codes compare by the values of their numbers.
use Rattle.std.proofs.Common.{◌≡◌, ℕ, suc, ◌<◌, List, [], ◌∷◌, ◌++◌, length, map, refl, sym, ap, ◌∙◌, arith, append-nil}
use Rattle.std.specs.Ordering.{nat_cmp, ordering_then, is_eq}
use Rattle.std.specs.Cmp.Lexicographic.{slice_cmp}
use Rattle.std.specs.declared.cmp.Ordering.{Ordering}
use Rattle.std.specs.declared.cmp.Ordering.TheVariants.{Less, Equal, Greater}
use Rattle.std.proofs.lemmas.List.{length-map, map-id}
use Rattle.std.proofs.lemmas.Cmp.{nat_list_cmp_total, tied_itself}
use Rattle.std.proofs.lemmas.Map.Text.{is_eq-slice_cmp}
use Rattle.std.proofs.lemmas.Slice.Eq.{bytes_eq-Decides}
use Rattle.uca_numbers.specs.Numbers.{IsNumber, value, significant, length_code, number_code}
use Rattle.uca_numbers.specs.Laws.{RisesOnDigits, NumbersCompareByValue, EqualNumbersHaveOneCode}
use Rattle.uca_numbers.proofs.Orders.{by_cmp, cmp_less, cmp_equal, cmp_greater, equal_from_cmp, append_cmp, greater_from_less}
use Rattle.uca_numbers.proofs.Values.{fewer_less, as_many_cmp, IsTrimmed, trimmed}
use Rattle.uca_numbers.proofs.Codes.{code_weights, code_less, code_same, weights_of_code}

module _ (weight : ℕ → ℕ) (rises : RisesOnDigits weight) where
  -- fewer digits before others
  fewer_cmp : {a b x y : List ℕ} (m : IsTrimmed a x) (n : IsTrimmed b y) (s t : List ℕ) → length m.more < length n.more →
      slice_cmp nat_cmp (code_weights weight rises (length m.more) (map weight (m.first ∷ m.more) ++ s))
      (code_weights weight rises (length n.more) (map weight (n.first ∷ n.more) ++ t)) ≡ Less
  fewer_cmp m n s t less =
      code_less weight rises (length m.more) (length n.more) (map weight (m.first ∷ m.more) ++ s) (map weight (n.first ∷ n.more) ++ t) less

  fewer_value : {a b x y : List ℕ} (m : IsTrimmed a x) (n : IsTrimmed b y) → length m.more < length n.more → value a < value b
  fewer_value m n less =
      let leads : 0x30 < n.first = n.leads (omega (arith, less)) in
      let lower : value (m.first ∷ m.more) < value (n.first ∷ n.more) = fewer_less (m.first ∷ m.more) n.first n.more m.all leads (omega (arith, less)) in
      omega (arith, lower, m.value, n.value)

  trimmed_cmp : {a b x y : List ℕ} (m : IsTrimmed a x) (n : IsTrimmed b y) (s t : List ℕ) →
      slice_cmp nat_cmp (code_weights weight rises (length m.more) (map weight (m.first ∷ m.more) ++ s))
      (code_weights weight rises (length n.more) (map weight (n.first ∷ n.more) ++ t))
      ≡ ordering_then (nat_cmp (value a) (value b)) (slice_cmp nat_cmp s t)
  trimmed_cmp {a = a} {b = b} m n s t =
      let left = map weight (m.first ∷ m.more) in
      let right = map weight (n.first ∷ n.more) in
      by_cmp (length m.more) (length n.more)
      (λ less. fewer_cmp m n s t less ∙ sym (ap (λ o. ordering_then o (slice_cmp nat_cmp s t)) (cmp_less (value a) (value b) (fewer_value m n less))))
      (λ same. code_same weight rises (length m.more) (length n.more) (left ++ s) (right ++ t) same
      ∙ append_cmp left right s t (length-map (m.first ∷ m.more) weight ∙ ap suc same ∙ sym (length-map (n.first ∷ n.more) weight))
      ∙ ap (λ o. ordering_then o (slice_cmp nat_cmp s t))
      (as_many_cmp weight rises (m.first ∷ m.more) (n.first ∷ n.more) m.all n.all (ap suc same)
      ∙ ap (λ v. nat_cmp v (value (n.first ∷ n.more))) (sym m.value) ∙ ap (λ w. nat_cmp (value a) w) (sym n.value)))
      (λ greater. greater_from_less (code_weights weight rises (length m.more) (left ++ s)) (code_weights weight rises (length n.more) (right ++ t))
      (fewer_cmp n m t s greater) ∙ sym (ap (λ o. ordering_then o (slice_cmp nat_cmp s t)) (cmp_greater (value a) (value b) (fewer_value n m greater))))

  -- the weights of a number's code, before others
  code_is : (c : ℕ) (more s : List ℕ) (m : IsTrimmed (c ∷ more) (significant (c ∷ more))) →
      map weight (number_code (c ∷ more)) ++ s ≡ code_weights weight rises (length m.more) (map weight (m.first ∷ m.more) ++ s)
  code_is c more s m = ap (λ digits. map weight (length_code (length digits) ++ digits) ++ s) m.same ∙ weights_of_code weight rises m.first m.more s

pub numbers_compare : NumbersCompareByValue
numbers_compare weight rises [] b s t first second = absurd first
numbers_compare weight rises (c ∷ a) [] s t first second = absurd second
numbers_compare weight rises (c ∷ a) (d ∷ b) s t first second =
    let m = trimmed c a first in
    let n = trimmed d b second in
    ap (λ l. slice_cmp nat_cmp l (map weight (number_code (d ∷ b)) ++ t)) (code_is weight rises c a s m)
    ∙ ap (λ l. slice_cmp nat_cmp (code_weights weight rises (length m.more) (map weight (m.first ∷ m.more) ++ s)) l) (code_is weight rises d b t n)
    ∙ trimmed_cmp weight rises m n s t

-- ---- Numbers of one value

itself : (xs : List ℕ) → map (λ (x : ℕ). x) xs ++ [] ≡ xs
itself xs = append-nil (map (λ (x : ℕ). x) xs) ∙ map-id xs

codes_cmp : (a b : List ℕ) → IsNumber a → IsNumber b → slice_cmp nat_cmp (number_code a) (number_code b) ≡ ordering_then (nat_cmp (value a) (value b)) Equal
codes_cmp a b first second =
    ap (λ l. slice_cmp nat_cmp l (number_code b)) (sym (itself (number_code a)))
    ∙ ap (λ l. slice_cmp nat_cmp (map (λ (x : ℕ). x) (number_code a) ++ []) l) (sym (itself (number_code b)))
    ∙ numbers_compare (λ x. x) (λ c d _ _ less. less) a b [] [] first second

same_from_cmp : (xs ys : List ℕ) → slice_cmp nat_cmp xs ys ≡ Equal → xs ≡ ys
same_from_cmp xs ys h = (bytes_eq-Decides xs ys).0 (sym (is_eq-slice_cmp xs ys) ∙ ap is_eq h)

equal_first : (o : Ordering) → ordering_then o Equal ≡ o
equal_first Less = refl
equal_first Equal = refl
equal_first Greater = refl

pub one_code : EqualNumbersHaveOneCode
one_code a b first second = (
  λ same. equal_from_cmp (value a) (value b)
      (sym (equal_first (nat_cmp (value a) (value b))) ∙ sym (codes_cmp a b first second)
      ∙ ap (λ l. slice_cmp nat_cmp (number_code a) l) (sym same) ∙ tied_itself nat_list_cmp_total (number_code a)),
  λ same. same_from_cmp (number_code a) (number_code b)
      (codes_cmp a b first second ∙ ap (λ o. ordering_then o Equal) (cmp_equal (value a) (value b) same)),
)
