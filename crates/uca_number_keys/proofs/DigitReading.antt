-- The elements of a text with digits in it, under a table that orders numbers.
use Rattle.std.proofs.Common.{◌≡◌, ◌≢◌, ℕ, List, [], ◌∷◌, ◌++◌, map, length, Bool, true, false, cond, Option, Some, None, refl, sym, ap, ◌∙◌, arith, length-append}
use Rattle.std.proofs.Common.{IsTrue}
use Rattle.std.specs.List.{AllByRecursion}
use Rattle.std.proofs.lemmas.Bool.{or_left, or_right}
use Rattle.std.proofs.lemmas.Bool.Decides.{nat_tests}
use Rattle.uca_weights.specs.declared.Element.{Element}
use Rattle.uca_values.specs.Implicit.{implicit}
use Rattle.uca_text.specs.Texts.{ClassedCodePoint, Text, with_classes}
use Rattle.uca_elements.specs.Rows.{is_key, IsKey}
use Rattle.uca_elements.specs.Cuts.{IsCut, IsNoFollower}
use Rattle.uca_elements.specs.Reading.{collation_elements}
use Rattle.uca_elements.specs.Collations.{Collation}
use Rattle.uca_elements.proofs.CutReading.{read_pieces}
use Rattle.uca_numbers.specs.Numbers.{IsDigit, is_digit}
use Rattle.uca_numbers.specs.Texts.{has_digit}
use Rattle.uca_numbers.proofs.Rewriting.{digit_test}
use Rattle.uca_number_keys.specs.Tables.{lone_primary_at, OrdersNumbers}
use Rattle.uca_number_keys.proofs.LoneReading.{reads_alone}

-- ---- Keys with digits

has_digit_there : (before : List ℕ) (d : ℕ) (after : List ℕ) → IsDigit d → IsTrue (has_digit (before ++ d ∷ after))
has_digit_there [] d after digit = or_left (is_digit d) (has_digit after) (digit_test d digit)
has_digit_there (c ∷ before) d after digit = or_right (is_digit c) (has_digit (before ++ d ∷ after)) (has_digit_there before d after digit)

-- ---- Rows of one element

-- a row with a primary weight that counts is one element
pub record IsLoneRow (o : Option (List Element)) : Type 0 where
  pub element : Element
  pub is : o ≡ Some (element ∷ [])
  pub fixed : element.mark ≡ false
  pub weight : lone_primary_at o ≡ element.primary

pub lone_row : (o : Option (List Element)) → lone_primary_at o ≢ 0 → IsLoneRow o
lone_row None some = absurd (some refl)
lone_row (Some []) some = absurd (some refl)
lone_row (Some (e ∷ [])) some = step e.mark refl
  where
    step : (b : Bool) → b ≡ e.mark → IsLoneRow (Some (e ∷ []))
    step true is = absurd (some (ap (λ m. cond m 0 e.primary) (sym is)))
    step false is = record { element = e; is = refl; fixed = sym is; weight = ap (λ m. cond m 0 e.primary) (sym is) }
lone_row (Some (e ∷ f ∷ more)) some = absurd (some refl)

module _ (c : Collation) (orders : OrdersNumbers c) where
  -- the elements of code points in Normalization Form D
  abbrev pub elements_in : List ℕ → List Element
  elements_in points = collation_elements c.rows c.ranges c.properties (with_classes points (map c.properties.class points))

  abbrev letter : ℕ → ClassedCodePoint
  letter d = record { code = d; class = c.properties.class d }

  pub row_of_digit : (d : ℕ) → IsDigit d → IsLoneRow (c.rows (d ∷ []))
  row_of_digit d digit = lone_row (c.rows (d ∷ [])) (orders.weighted d digit)

  no_longer : (d : ℕ) → IsDigit d → (x : ℕ) (more : List ℕ) → IsKey c.rows (d ∷ x ∷ more) → ⊥
  no_longer d digit x more key =
      let one : length (d ∷ x ∷ more) ≡ 1 = orders.alone (d ∷ x ∷ more) key (has_digit_there [] d (x ∷ more) digit) in
      omega (arith, one)

  no_follower : (d : ℕ) → IsDigit d → IsNoFollower (is_key c.rows) d
  no_follower d digit first before after key =
      let one : length (first ∷ (before ++ d ∷ after)) ≡ 1 = orders.alone (first ∷ (before ++ d ∷ after)) key (has_digit_there (first ∷ before) d after digit) in
      let more = length-append before (d ∷ after) in
      omega (arith, one, more)

  with_classes-append : (xs ys : List ℕ) → with_classes (xs ++ ys) (map c.properties.class (xs ++ ys))
      ≡ with_classes xs (map c.properties.class xs) ++ with_classes ys (map c.properties.class ys)
  with_classes-append [] ys = refl
  with_classes-append (x ∷ xs) ys = ap (λ t. letter x ∷ t) (with_classes-append xs ys)

  -- a text may be cut before a digit
  cut_before : (xs : List ℕ) (d : ℕ) (ys : List ℕ) → IsDigit d → elements_in (xs ++ d ∷ ys) ≡ elements_in xs ++ elements_in (d ∷ ys)
  cut_before xs d ys digit =
      let rest : Text = with_classes (d ∷ ys) (map c.properties.class (d ∷ ys)) in
      let class : c.properties.class d ≡ 0 = orders.starters d digit in
      let cut : IsCut (is_key c.rows) rest = (grind (arith, nat_tests, class), no_follower d digit) in
      ap (collation_elements c.rows c.ranges c.properties) (with_classes-append xs (d ∷ ys))
      ∙ read_pieces (implicit c.ranges c.properties) c.rows rest cut (with_classes xs (map c.properties.class xs))

  -- and after it
  digit_first : (d : ℕ) (ys : List ℕ) (digit : IsDigit d) → elements_in (d ∷ ys) ≡ (row_of_digit d digit).element ∷ elements_in ys
  digit_first d ys digit =
      reads_alone c.rows (letter d) (no_longer d digit) (implicit c.ranges c.properties) ((row_of_digit d digit).element ∷ [])
      (with_classes ys (map c.properties.class ys)) (row_of_digit d digit).is

  -- the elements of digits
  abbrev pub digit_elements : (digits : List ℕ) → AllByRecursion IsDigit digits → List Element
  digit_elements [] all = []
  digit_elements (d ∷ digits) all = (row_of_digit d all.0).element ∷ digit_elements digits all.1

  digits_first : (digits ys : List ℕ) (all : AllByRecursion IsDigit digits) → elements_in (digits ++ ys) ≡ digit_elements digits all ++ elements_in ys
  digits_first [] ys all = refl
  digits_first (d ∷ digits) ys all =
      digit_first d (digits ++ ys) all.0 ∙ ap (λ es. (row_of_digit d all.0).element ∷ es) (digits_first digits ys all.1)

  pub digits_between : (xs : List ℕ) (d : ℕ) (digits ys : List ℕ) (all : AllByRecursion IsDigit (d ∷ digits)) →
      elements_in (xs ++ ((d ∷ digits) ++ ys)) ≡ elements_in xs ++ (digit_elements (d ∷ digits) all ++ elements_in ys)
  digits_between xs d digits ys all =
      cut_before xs d (digits ++ ys) all.0 ∙ ap (λ es. elements_in xs ++ es) (digits_first (d ∷ digits) ys all)
