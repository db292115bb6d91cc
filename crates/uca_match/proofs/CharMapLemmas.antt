-- Numbers of code points in pages: at first all are 0.
use Rattle.std.proofs.Common.{◌≡◌, ℕ, zero, suc, ◌+◌, ◌*◌, ◌%◌, ◌<◌, List, length, replicate, get_or, nat_lt}
use Rattle.std.proofs.Common.{sym, ap, refl, ◌∙◌, arith}
use Rattle.std.specs.List.{count_by}
use Rattle.std.proofs.lemmas.List.{length-replicate}
use Rattle.uca_match.specs.CharMaps.{page_of, number_in, ArePages}

-- ---- Zeros

zero_at : (n k : ℕ) → ◌≡◌ {A = ℕ} (get_or (replicate n 0) k 0) 0
zero_at zero k = refl
zero_at (suc n) zero = refl
zero_at (suc n) (suc k) = zero_at n k

-- no page is in use
none_used : (n : ℕ) → count_by (λ p. nat_lt 0 p) (replicate n 0) ≡ 0
none_used zero = refl
none_used (suc n) = none_used n

-- ---- No numbers

module _ (pages numbers : List ℕ) (n m : ℕ) (many : n ≡ 0x1100) (page : m ≡ 256) (of_pages : pages ≡ replicate n 0) (of_numbers : numbers ≡ replicate m 0) where
  no_page : (k : ℕ) → get_or pages k 0 ≡ 0
  no_page k = ap (λ xs. get_or xs k 0) of_pages ∙ zero_at n k

  no_number : (k : ℕ) → get_or numbers k 0 ≡ 0
  no_number k = ap (λ xs. get_or xs k 0) of_numbers ∙ zero_at m k

  pub pages_none : ArePages pages numbers
  pages_none =
      let long = ap length of_numbers ∙ length-replicate {A = ℕ} m 0 in
      record {
        long = ap length of_pages ∙ length-replicate {A = ℕ} n 0 ∙ many;
        used = long ∙ page ∙ ap (λ k. (1 + k) * 256) (sym (ap (count_by (λ p. nat_lt 0 p)) of_pages ∙ none_used n));
        within = λ k. omega (arith, no_page k, long, page);
        apart = λ k l some same. absurd (omega (arith, no_page k, some));
        none = λ i within. no_number i;
      }

  pub numbers_none : (c : ℕ) → number_in pages numbers c ≡ 0
  numbers_none c = no_number (page_of pages c * 256 + c % 256)

-- ---- The places of a page

-- the places of a page are within the numbers
pub place_within : (pages numbers : List ℕ) (at place page : ℕ) → ArePages pages numbers → page ≡ get_or pages at 0 → place < 256 →
    page * 256 + place < length numbers
place_within pages numbers at place page are is below = omega (arith, are.used, are.within at, is, below)
