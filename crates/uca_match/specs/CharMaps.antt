-- Numbers of code points, kept in pages of 256.
use Rattle.std.specs.Prelude.{◌≡◌, ℕ, ◌+◌, ◌*◌, ◌/◌, ◌%◌, ◌<◌, List, length, nat_lt, slice_index_or}
use Rattle.std.specs.List.{count_by}

-- the page of a code point
abbrev pub page_of : List ℕ → ℕ → ℕ
page_of pages c = slice_index_or pages (c / 256) 0

-- the number of a code point: the one at its place in its page
abbrev pub number_in : List ℕ → List ℕ → ℕ → ℕ
number_in pages numbers c = slice_index_or numbers (page_of pages c * 256 + c % 256) 0

-- what a map of code points has
pub record Paged : Type 0 where
  pub pages : List ℕ
  pub numbers : List ℕ

abbrev pub number_of : Paged → ℕ → ℕ
number_of m c = number_in m.pages m.numbers c

-- each 256 code points have a page of their own, or the first one, in which all numbers are 0
pub record ArePages (pages numbers : List ℕ) : Type 0 where
  pub long : length pages ≡ 0x1100
  pub used : length numbers ≡ (1 + count_by (λ p. nat_lt 0 p) pages) * 256
  pub within : (k : ℕ) → slice_index_or pages k 0 * 256 < length numbers
  pub apart : (k l : ℕ) → 0 < slice_index_or pages k 0 → slice_index_or pages k 0 ≡ slice_index_or pages l 0 → k ≡ l
  pub none : (i : ℕ) → i < 256 → slice_index_or numbers i 0 ≡ 0
