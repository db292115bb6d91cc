-- The codes of lengths: they rise, and none begins another one.
use Rattle.std.proofs.Common.{◌≡◌, ℕ, zero, suc, ◌+◌, ◌-◌, ◌/◌, ◌%◌, ◌<◌, ◌≤◌, List, [], ◌∷◌, ◌++◌, length, replicate, map, refl, sym, ap, ◌∙◌, arith}
use Rattle.std.specs.Ordering.{nat_cmp}
use Rattle.std.specs.Cmp.Lexicographic.{slice_cmp}
use Rattle.std.specs.declared.cmp.Ordering.TheVariants.{Less}
use Rattle.uca_numbers.specs.Numbers.{IsDigit, length_code}
use Rattle.uca_numbers.specs.Laws.{RisesOnDigits}
use Rattle.uca_numbers.proofs.Orders.{by_cmp, same_head, less_head}

-- ---- Lists that begin with one number again and again

same_run : (nine k : ℕ) (xs ys : List ℕ) → slice_cmp nat_cmp (replicate k nine ++ xs) (replicate k nine ++ ys) ≡ slice_cmp nat_cmp xs ys
same_run nine zero xs ys = refl
same_run nine (suc k) xs ys = same_head nine (replicate k nine ++ xs) (replicate k nine ++ ys) ∙ same_run nine k xs ys

-- the one that ends sooner is less, if what comes then is
shorter_run : (nine k l d e : ℕ) (xs ys : List ℕ) → d < nine → k < l →
    slice_cmp nat_cmp (replicate k nine ++ d ∷ xs) (replicate l nine ++ e ∷ ys) ≡ Less
shorter_run nine k zero d e xs ys small h = absurd (omega (arith, h))
shorter_run nine zero (suc l) d e xs ys small h = less_head d nine xs (replicate l nine ++ e ∷ ys) small
shorter_run nine (suc k) (suc l) d e xs ys small h =
    same_head nine (replicate k nine ++ d ∷ xs) (replicate l nine ++ e ∷ ys) ∙ shorter_run nine k l d e xs ys small (omega (arith, h))

-- the weights of a run and one more digit, before others
run_weights : (weight : ℕ → ℕ) (k d : ℕ) (digits s : List ℕ) →
    map weight ((replicate k 0x39 ++ d ∷ []) ++ digits) ++ s ≡ replicate k (weight 0x39) ++ weight d ∷ (map weight digits ++ s)
run_weights weight zero d digits s = refl
run_weights weight (suc k) d digits s = ap (λ more. weight 0x39 ∷ more) (run_weights weight k d digits s)

-- ---- Codes

digit_at : (c : ℕ) → 0x30 ≤ c → c ≤ 0x39 → IsDigit c
digit_at c low high = record { low = low; high = high }

module _ (weight : ℕ → ℕ) (rises : RisesOnDigits weight) where
  abbrev last_of : ℕ → ℕ
  last_of k = weight (0x31 + k % 8)

  -- the weights of the code of the length k + 1, before others
  abbrev pub code_weights : ℕ → List ℕ → List ℕ
  code_weights k more = replicate (k / 8) (weight 0x39) ++ last_of k ∷ more

  last_digit : (k : ℕ) → IsDigit (0x31 + k % 8)
  last_digit k = digit_at (0x31 + k % 8) (omega arith) (omega arith)

  below_nine : (k : ℕ) → last_of k < weight 0x39
  below_nine k = rises (0x31 + k % 8) 0x39 (last_digit k) (digit_at 0x39 (omega arith) (omega arith)) (omega arith)

  pub code_less : (k l : ℕ) (xs ys : List ℕ) → k < l → slice_cmp nat_cmp (code_weights k xs) (code_weights l ys) ≡ Less
  code_less k l xs ys h =
      by_cmp (k / 8) (l / 8)
      (λ less. shorter_run (weight 0x39) (k / 8) (l / 8) (last_of k) (last_of l) xs ys (below_nine k) less)
      (λ same. ap (λ n. slice_cmp nat_cmp (code_weights k xs) (replicate n (weight 0x39) ++ last_of l ∷ ys)) (sym same)
      ∙ same_run (weight 0x39) (k / 8) (last_of k ∷ xs) (last_of l ∷ ys)
      ∙ less_head (last_of k) (last_of l) xs ys (rises (0x31 + k % 8) (0x31 + l % 8) (last_digit k) (last_digit l) (omega (arith, same, h))))
      (λ greater. absurd (omega (arith, greater, h)))

  pub code_same : (k l : ℕ) (xs ys : List ℕ) → k ≡ l → slice_cmp nat_cmp (code_weights k xs) (code_weights l ys) ≡ slice_cmp nat_cmp xs ys
  code_same k l xs ys same =
      ap (λ n. slice_cmp nat_cmp (code_weights k xs) (code_weights n ys)) (sym same)
      ∙ same_run (weight 0x39) (k / 8) (last_of k ∷ xs) (last_of k ∷ ys)
      ∙ same_head (last_of k) xs ys

  pub weights_of_code : (c : ℕ) (more s : List ℕ) →
      map weight (length_code (length (c ∷ more)) ++ c ∷ more) ++ s ≡ code_weights (length more) (map weight (c ∷ more) ++ s)
  weights_of_code c more s =
      let fewer : length (c ∷ more) - 1 ≡ length more = omega arith in
      ap (λ n. map weight ((replicate (n / 8) 0x39 ++ (0x31 + n % 8) ∷ []) ++ c ∷ more) ++ s) fewer
      ∙ run_weights weight (length more / 8) (0x31 + length more % 8) (c ∷ more) s
