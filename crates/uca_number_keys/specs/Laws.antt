-- Texts with numbers are ordered by the values of the numbers.
use Rattle.std.specs.Prelude.{◌≡◌, ◌≢◌, ℕ, ◌<◌, List, [], ◌∷◌, ◌++◌, false, ⊤}
use Rattle.std.specs.Ordering.{nat_cmp, ordering_then}
use Rattle.std.specs.declared.cmp.Ordering.{Ordering}
use Rattle.std.specs.declared.cmp.Ordering.TheVariants.{Less, Greater}
use Rattle.unicode_normalization.specs.Forms.{nfd}
use Rattle.uca_weights.specs.declared.Depth.{Depth}
use Rattle.uca_weights.specs.declared.Depth.TheVariants.{Weights}
use Rattle.uca_weights.specs.declared.Numbers.TheVariants.{AsText, ByValue}
use Rattle.uca_weights.specs.declared.Weighting.{Weighting}
use Rattle.uca_values.specs.Content.{Properties}
use Rattle.uca_text.specs.Texts.{AreCanonicallyEquivalent}
use Rattle.uca_elements.specs.Collations.{Collation}
use Rattle.uca_order.specs.Levels.{lexicographic}
use Rattle.uca_order.specs.Depths.{compared_at, key_at, read_points, text_key, written_text}
use Rattle.uca_numbers.specs.Numbers.{value}
use Rattle.uca_numbers.specs.Texts.{by_value, has_digit, IsNumberBetween}
use Rattle.uca_number_keys.specs.Tables.{OrdersNumbers, digit_weight}
use Rattle.uca_number_keys.specs.Keys.{read_by_value, first_level}

-- Two texts in Normalization Form D, each with a number in it. What comes before these does not differ at level 1.
pub record HaveNumbers (c : Collation) (weighting : Weighting) (front a rest other b more : List ℕ) : Type 0 where
  pub left : IsNumberBetween front a rest
  pub right : IsNumberBetween other b more
  pub same : first_level c weighting front ≡ first_level c weighting other

-- Under a table that orders numbers the numbers of two such texts decide by their values, as a difference at level 1.
pub record NumbersOrderTexts : Type 0 where
  -- at level 1 the values decide, and after them what follows the numbers
  pub level_1 : (c : Collation) (weighting : Weighting) (front a rest other b more : List ℕ) → OrdersNumbers c → HaveNumbers c weighting front a rest other b more →
      lexicographic (first_level c weighting (front ++ (a ++ rest))) (first_level c weighting (other ++ (b ++ more)))
      ≡ ordering_then (nat_cmp (value a) (value b)) (lexicographic (first_level c weighting rest) (first_level c weighting more))
  -- so texts with other values differ at level 1
  pub texts : (c : Collation) (depth : Depth) (weighting : Weighting) (front a rest other b more : List ℕ) → OrdersNumbers c →
      HaveNumbers c weighting front a rest other b more → value a ≢ value b →
      compared_at depth weighting (read_by_value c (front ++ (a ++ rest))) (read_by_value c (other ++ (b ++ more)))
      ≡ record { order = nat_cmp (value a) (value b); level = 1 }
  -- and the bytes of their keys are in the order of the values
  pub keys : (c : Collation) (depth : Depth) (weighting : Weighting) (front a rest other b more : List ℕ) → OrdersNumbers c →
      HaveNumbers c weighting front a rest other b more → value a ≢ value b →
      lexicographic (key_at depth weighting (read_by_value c (front ++ (a ++ rest)))) (key_at depth weighting (read_by_value c (other ++ (b ++ more))))
      ≡ nat_cmp (value a) (value b)

-- ---- A number, and what is no number at its place

-- A text with a number, and another text whose weights at level 1 are those before the number, and then `tail`.
pub record StandsAgainst (c : Collation) (weighting : Weighting) (front number rest other tail : List ℕ) : Type 0 where
  pub between : IsNumberBetween front number rest
  pub same : first_level c weighting other ≡ first_level c weighting front ++ tail

-- the weights end, or go on with one below this
abbrev pub GoesOnBelow : ℕ → List ℕ → Type 0
GoesOnBelow weight [] = ⊤
GoesOnBelow weight (w ∷ more) = w < weight

-- they go on with one above this
abbrev pub GoesOnAbove : ℕ → List ℕ → Type 0
GoesOnAbove weight [] = ⊥
GoesOnAbove weight (w ∷ more) = weight < w

-- two texts differ at level 1, and the bytes of their keys have the same order
pub record DifferFirst (c : Collation) (depth : Depth) (weighting : Weighting) (left right : List ℕ) (order : Ordering) : Type 0 where
  pub texts : compared_at depth weighting (read_by_value c left) (read_by_value c right) ≡ record { order = order; level = 1 }
  pub keys : lexicographic (key_at depth weighting (read_by_value c left)) (key_at depth weighting (read_by_value c right)) ≡ order

-- Under a table that orders numbers, a number is greater than what ends there or goes on below the digit 0. It is less
-- than what goes on above the digit 9.
pub record NumbersStandTogether : Type 0 where
  pub below : (c : Collation) (depth : Depth) (weighting : Weighting) (front number rest other tail : List ℕ) → OrdersNumbers c →
      StandsAgainst c weighting front number rest other tail → GoesOnBelow (digit_weight c.rows 0x30) tail →
      DifferFirst c depth weighting (front ++ (number ++ rest)) other Greater
  pub above : (c : Collation) (depth : Depth) (weighting : Weighting) (front number rest other tail : List ℕ) → OrdersNumbers c →
      StandsAgainst c weighting front number rest other tail → GoesOnAbove (digit_weight c.rows 0x39) tail →
      DifferFirst c depth weighting (front ++ (number ++ rest)) other Less

-- Texts that differ in leading zeros alone have the same elements, under any table.
abbrev pub LeadingZerosMeanNothing : Type 0
LeadingZerosMeanNothing = (c : Collation) (front a b rest : List ℕ) → IsNumberBetween front a rest → IsNumberBetween front b rest → value a ≡ value b →
    (read_by_value c (front ++ (a ++ rest))).elements ≡ (read_by_value c (front ++ (b ++ rest))).elements

-- ---- Texts that are given as their code points before normalization

-- What such a text is read as by value is what its Normalization Form D is read as by value. So the laws above speak of it too.
abbrev pub NumericTextsReadByValue : Type 0
NumericTextsReadByValue = (c : Collation) (points : List ℕ) → read_points c ByValue points ≡ read_by_value c (nfd points)

-- Canonically equivalent texts have the same limits.
abbrev pub EquivalentTextsHaveTheSameLimits : Type 0
EquivalentTextsHaveTheSameLimits = (properties : Properties) (left right : List ℕ) → AreCanonicallyEquivalent left right →
    written_text ByValue properties left ≡ written_text ByValue properties right

-- Without an identical level the key is that of the text by value. A text without digits has the key that it has as a text.
pub record NumericKeysAreOfTextsByValue : Type 0 where
  pub weights : (c : Collation) (weighting : Weighting) (points : List ℕ) →
      text_key c (record { weighting = weighting; depth = Weights; numbers = ByValue }) points
      ≡ text_key c (record { weighting = weighting; depth = Weights; numbers = AsText }) (by_value points)
  pub without_digits : (c : Collation) (weighting : Weighting) (depth : Depth) (points : List ℕ) → has_digit points ≡ false →
      text_key c (record { weighting = weighting; depth = depth; numbers = ByValue }) points
      ≡ text_key c (record { weighting = weighting; depth = depth; numbers = AsText }) points
