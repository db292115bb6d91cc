-- Numbers decide by their values, at level 1.
use Rattle.std.proofs.Common.{◌≡◌, ◌≢◌, ℕ, ◌≤◌, List, [], ◌∷◌, ◌++◌, map, refl, sym, ap, ap₂, ◌∙◌, arith, inl, inr}
use Rattle.std.specs.Ordering.{nat_cmp, ordering_then}
use Rattle.std.specs.declared.cmp.Ordering.{Ordering}
use Rattle.std.specs.declared.cmp.Ordering.TheVariants.{Less, Greater}
use Rattle.std.proofs.lemmas.Bool.{cases_eq}
use Rattle.uca_weights.specs.declared.Depth.{Depth}
use Rattle.uca_weights.specs.declared.Depth.TheVariants.{Weights, Identical}
use Rattle.uca_weights.specs.declared.Weighting.{Weighting}
use Rattle.uca_weights.specs.declared.Weighting.TheVariants.{NonIgnorable, Shifted}
use Rattle.uca_elements.specs.Collations.{Collation, elements_of}
use Rattle.uca_order.specs.Levels.{Comparison, lexicographic, decided}
use Rattle.uca_order.specs.Depths.{compared_at}
use Rattle.uca_order.proofs.DepthOrder.{keys_compare_as_texts}
use Rattle.uca_numbers.specs.Numbers.{IsDigit, value, number_code}
use Rattle.uca_numbers.specs.Texts.{by_value, IsNumberBetween}
use Rattle.uca_numbers.proofs.Orders.{by_cmp, cmp_less, cmp_greater, same_head}
use Rattle.uca_numbers.proofs.Comparing.{numbers_compare, one_code}
use Rattle.uca_numbers.proofs.Rewriting.{codes_stand}
use Rattle.uca_numbers.proofs.CodeDigits.{code_digits}
use Rattle.uca_number_keys.specs.Tables.{digit_weight, OrdersNumbers}
use Rattle.uca_number_keys.specs.Keys.{read_by_value, first_level}
use Rattle.uca_number_keys.specs.Laws.{HaveNumbers, NumbersOrderTexts, StandsAgainst, GoesOnBelow, GoesOnAbove, DifferFirst, NumbersStandTogether, LeadingZerosMeanNothing}
use Rattle.uca_number_keys.proofs.DigitReading.{elements_in, digit_elements, digits_between}
use Rattle.uca_number_keys.proofs.FirstLevels.{first_list, first_list-append, first_list_of_digits}

-- lists that begin alike compare by what follows
same_front : (xs ys zs : List ℕ) → lexicographic (xs ++ ys) (xs ++ zs) ≡ lexicographic ys zs
same_front [] ys zs = refl
same_front (x ∷ xs) ys zs = same_head x (xs ++ ys) (xs ++ zs) ∙ same_front xs ys zs

module _ (c : Collation) (orders : OrdersNumbers c) (weighting : Weighting) where
  -- the weights of a text at level 1 are those of its front, of the code of its number, and of the rest
  level_in_pieces : (front number rest : List ℕ) → IsNumberBetween front number rest →
      first_level c weighting (front ++ (number ++ rest))
      ≡ first_level c weighting front ++ (map (digit_weight c.rows) (number_code number) ++ first_level c weighting rest)
  level_in_pieces front number rest between =
      let code = code_digits number between.is_number in
      let digits = digit_elements c orders (code.first ∷ code.more) code.all in
      ap (λ l. first_list weighting (elements_in c orders l)) (codes_stand.number front number rest between)
      ∙ ap (λ l. first_list weighting (elements_in c orders (by_value front ++ (l ++ by_value rest)))) code.same
      ∙ ap (first_list weighting) (digits_between c orders (by_value front) code.first code.more (by_value rest) code.all)
      ∙ first_list-append weighting (elements_in c orders (by_value front)) (digits ++ elements_in c orders (by_value rest))
      ∙ ap (λ l. first_level c weighting front ++ l)
      (first_list-append weighting digits (elements_in c orders (by_value rest))
      ∙ ap (λ l. l ++ first_level c weighting rest) (first_list_of_digits c orders weighting (code.first ∷ code.more) code.all
      ∙ ap (map (digit_weight c.rows)) (sym code.same)))

  level_1_order : (front a rest other b more : List ℕ) → HaveNumbers c weighting front a rest other b more →
      lexicographic (first_level c weighting (front ++ (a ++ rest))) (first_level c weighting (other ++ (b ++ more)))
      ≡ ordering_then (nat_cmp (value a) (value b)) (lexicographic (first_level c weighting rest) (first_level c weighting more))
  level_1_order front a rest other b more have =
      let weights = map (digit_weight c.rows) in
      let left = weights (number_code a) ++ first_level c weighting rest in
      let right = weights (number_code b) ++ first_level c weighting more in
      ap₂ lexicographic (level_in_pieces front a rest have.left ∙ ap (λ l. l ++ left) have.same) (level_in_pieces other b more have.right)
      ∙ same_front (first_level c weighting other) left right
      ∙ numbers_compare (digit_weight c.rows) orders.rises a b (first_level c weighting rest) (first_level c weighting more) have.left.is_number have.right.is_number

-- ---- The level at which texts differ

decided_first : (v w : ℕ) (o rest : Ordering) (later : Comparison) → v ≢ w → o ≡ ordering_then (nat_cmp v w) rest →
    decided o 1 later ≡ record { order = nat_cmp v w; level = 1 }
decided_first v w o rest later differ is =
    by_cmp v w
    (λ less. ap (λ o. decided o 1 later) (is ∙ ap (λ o. ordering_then o rest) (cmp_less v w less)) ∙ ap (λ o. record { order = o; level = 1 }) (sym (cmp_less v w less)))
    (λ same. absurd (differ same))
    (λ greater. ap (λ o. decided o 1 later) (is ∙ ap (λ o. ordering_then o rest) (cmp_greater v w greater)) ∙ ap (λ o. record { order = o; level = 1 }) (sym (cmp_greater v w greater)))

-- what comes after level 1
later_levels : (depth : Depth) (weighting : Weighting) (c : Collation) (left right : List ℕ) → (later : Comparison)
    × (compared_at depth weighting (read_by_value c left) (read_by_value c right) ≡ decided (lexicographic (first_level c weighting left) (first_level c weighting right)) 1 later)
later_levels Weights NonIgnorable c left right = (_, refl)
later_levels Weights Shifted c left right = (_, refl)
later_levels Identical NonIgnorable c left right = (_, refl)
later_levels Identical Shifted c left right = (_, refl)

values_decide : (c : Collation) (depth : Depth) (weighting : Weighting) (front a rest other b more : List ℕ) → OrdersNumbers c →
    HaveNumbers c weighting front a rest other b more → value a ≢ value b →
    compared_at depth weighting (read_by_value c (front ++ (a ++ rest))) (read_by_value c (other ++ (b ++ more)))
    ≡ record { order = nat_cmp (value a) (value b); level = 1 }
values_decide c depth weighting front a rest other b more orders have differ =
    let left = front ++ (a ++ rest) in
    let right = other ++ (b ++ more) in
    let later = later_levels depth weighting c left right in
    later.1
    ∙ decided_first (value a) (value b) (lexicographic (first_level c weighting left) (first_level c weighting right))
    (lexicographic (first_level c weighting rest) (first_level c weighting more)) later.0 differ
    (level_1_order c orders weighting front a rest other b more have)

pub numbers_order : NumbersOrderTexts
numbers_order = record {
  level_1 = λ c weighting front a rest other b more orders have. level_1_order c orders weighting front a rest other b more have;
  texts = values_decide;
  keys = λ c depth weighting front a rest other b more orders have differ.
      keys_compare_as_texts.order depth weighting (read_by_value c (front ++ (a ++ rest))) (read_by_value c (other ++ (b ++ more)))
      ∙ ap (λ (r : Comparison). r.order) (values_decide c depth weighting front a rest other b more orders have differ);
}

-- ---- What is no number

module _ (c : Collation) (orders : OrdersNumbers c) where
  least_digit : (d : ℕ) → IsDigit d → digit_weight c.rows 0x30 ≤ digit_weight c.rows d
  least_digit d digit = elim (cases_eq d 0x30) [
    | inl same ↦ let is = ap (digit_weight c.rows) same in omega (arith, is)
    | inr other ↦
        let low = digit.low in
        let rises = orders.rises 0x30 d (record { low = omega arith; high = omega arith }) digit (omega (arith, low, other)) in
        omega (arith, rises)
  ]

  greatest_digit : (d : ℕ) → IsDigit d → digit_weight c.rows d ≤ digit_weight c.rows 0x39
  greatest_digit d digit = elim (cases_eq d 0x39) [
    | inl same ↦ let is = ap (digit_weight c.rows) same in omega (arith, is)
    | inr other ↦
        let high = digit.high in
        let rises = orders.rises d 0x39 digit (record { low = omega arith; high = omega arith }) (omega (arith, high, other)) in
        omega (arith, rises)
  ]

  -- a digit's weight against what goes on
  above_tail : (w : ℕ) (ws tail : List ℕ) → digit_weight c.rows 0x30 ≤ w → GoesOnBelow (digit_weight c.rows 0x30) tail → lexicographic (w ∷ ws) tail ≡ Greater
  above_tail w ws [] least below = refl
  above_tail w ws (v ∷ tail) least below = ap (λ o. ordering_then o (lexicographic ws tail)) (cmp_greater w v (omega (arith, least, below)))

  below_tail : (w : ℕ) (ws tail : List ℕ) → w ≤ digit_weight c.rows 0x39 → GoesOnAbove (digit_weight c.rows 0x39) tail → lexicographic (w ∷ ws) tail ≡ Less
  below_tail w ws [] greatest above = absurd above
  below_tail w ws (v ∷ tail) greatest above = ap (λ o. ordering_then o (lexicographic ws tail)) (cmp_less w v (omega (arith, greatest, above)))

  -- what decides is the weight of the first digit of the code
  decided_by_digit : (depth : Depth) (weighting : Weighting) (front number rest other tail : List ℕ) (order : Ordering) →
      StandsAgainst c weighting front number rest other tail → ((later : Comparison) → decided order 1 later ≡ record { order = order; level = 1 }) →
      ((d : ℕ) (ws : List ℕ) → IsDigit d → lexicographic (digit_weight c.rows d ∷ ws) tail ≡ order) →
      DifferFirst c depth weighting (front ++ (number ++ rest)) other order
  decided_by_digit depth weighting front number rest other tail order stands decides first =
      let code = code_digits number stands.between.is_number in
      let weights = map (digit_weight c.rows) in
      let after = first_level c weighting rest in
      let left = front ++ (number ++ rest) in
      let level : lexicographic (first_level c weighting left) (first_level c weighting other) ≡ order =
      ap₂ lexicographic (level_in_pieces c orders weighting front number rest stands.between) stands.same
      ∙ same_front (first_level c weighting front) (weights (number_code number) ++ after) tail
      ∙ ap (λ l. lexicographic (weights l ++ after) tail) code.same
      ∙ first code.first (weights code.more ++ after) code.all.0 in
      let later = later_levels depth weighting c left other in
      let texts = later.1 ∙ ap (λ o. decided o 1 later.0) level ∙ decides later.0 in
      record {
        texts = texts;
        keys = keys_compare_as_texts.order depth weighting (read_by_value c left) (read_by_value c other) ∙ ap (λ (r : Comparison). r.order) texts;
      }

pub numbers_together : NumbersStandTogether
numbers_together = record {
  below = λ c depth weighting front number rest other tail orders stands below.
      decided_by_digit c orders depth weighting front number rest other tail Greater stands (λ later. refl)
      (λ d ws digit. above_tail c orders (digit_weight c.rows d) ws tail (least_digit c orders d digit) below);
  above = λ c depth weighting front number rest other tail orders stands above.
      decided_by_digit c orders depth weighting front number rest other tail Less stands (λ later. refl)
      (λ d ws digit. below_tail c orders (digit_weight c.rows d) ws tail (greatest_digit c orders d digit) above);
}

pub leading_zeros : LeadingZerosMeanNothing
leading_zeros c front a b rest left right same =
    ap (λ points. elements_of c (record { points = points; classes = map c.properties.class points }))
    (codes_stand.number front a rest left
    ∙ ap (λ code. by_value front ++ (code ++ by_value rest)) ((one_code a b left.is_number right.is_number).1 same)
    ∙ sym (codes_stand.number front b rest right))
