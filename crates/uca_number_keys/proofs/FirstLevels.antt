-- Weights at level 1: those of two pieces in turn, whatever comes before.
use Rattle.std.proofs.Common.{◌≡◌, ◌≢◌, ℕ, List, [], ◌∷◌, ◌++◌, map, filter, Bool, true, false, cond, not, nat_eq, ◌&&◌, refl, sym, ap, ap₂, ◌∙◌, arith}
use Rattle.std.specs.List.{AllByRecursion}
use Rattle.std.proofs.lemmas.Bool.Decides.{nat_tests}
use Rattle.std.proofs.lemmas.Bool.{cond_both, and_parts, eqb-true}
use Rattle.std.proofs.lemmas.List.{map-append}
use Rattle.uca_weights.specs.declared.Element.{Element}
use Rattle.uca_weights.specs.declared.Weighting.{Weighting}
use Rattle.uca_weights.specs.declared.Weighting.TheVariants.{NonIgnorable, Shifted}
use Rattle.uca_order.specs.Levels.{weights_of, weight_at, weighted, weighted_following, follows_variable, is_ignorable, level_list}
use Rattle.uca_elements.specs.Collations.{Collation}
use Rattle.uca_numbers.specs.Numbers.{IsDigit}
use Rattle.uca_number_keys.specs.Tables.{digit_weight, OrdersNumbers}
use Rattle.uca_number_keys.proofs.DigitReading.{row_of_digit, digit_elements}

-- the weight of an element at level 1, which does not hang on what comes before
abbrev pub first_weight : Weighting → Element → ℕ
first_weight NonIgnorable e = e.primary
first_weight Shifted e = cond e.mark 0 e.primary

-- an ignorable element has no primary weight anyway
ignored : (after : Bool) (e : Element) (ws : List ℕ) → weight_at 1 (cond (is_ignorable e && after) (0 ∷ 0 ∷ 0 ∷ 0 ∷ []) (e.primary ∷ ws)) ≡ e.primary
ignored after e ws =
    cond_both (is_ignorable e && after) (0 ∷ 0 ∷ 0 ∷ 0 ∷ []) (e.primary ∷ ws) (λ w. weight_at 1 w ≡ e.primary)
    (λ is. sym (eqb-true e.primary 0 (and_parts (is_ignorable e) after is).0))
    (λ is_not. refl)

first_weight_is : (weighting : Weighting) (after : Bool) (e : Element) → weight_at 1 (weights_of weighting after e) ≡ first_weight weighting e
first_weight_is NonIgnorable after e = refl
first_weight_is Shifted after e = step e.mark
  where
    step : (variable : Bool) → weight_at 1 (cond variable (0 ∷ 0 ∷ 0 ∷ e.primary ∷ []) (cond (is_ignorable e && after) (0 ∷ 0 ∷ 0 ∷ 0 ∷ [])
        (e.primary ∷ e.secondary ∷ e.tertiary ∷ cond (is_ignorable e && nat_eq e.secondary 0 && nat_eq e.tertiary 0) 0 0xFFFF ∷ []))) ≡ cond variable 0 e.primary
    step true = refl
    step false = ignored after e (e.secondary ∷ e.tertiary ∷ cond (is_ignorable e && nat_eq e.secondary 0 && nat_eq e.tertiary 0) 0 0xFFFF ∷ [])

first_weights : (weighting : Weighting) (earlier es : List Element) → map (weight_at 1) (weighted_following weighting earlier es) ≡ map (first_weight weighting) es
first_weights weighting earlier [] = refl
first_weights weighting earlier (e ∷ es) =
    ap₂ (λ w ws. w ∷ ws) (first_weight_is weighting (follows_variable earlier) e) (first_weights weighting (e ∷ earlier) es)

-- ---- Level lists

abbrev some_weight : ℕ → Bool
some_weight w = not (nat_eq w 0)

filter-append : (xs ys : List ℕ) → filter some_weight (xs ++ ys) ≡ filter some_weight xs ++ filter some_weight ys
filter-append [] ys = refl
filter-append (x ∷ xs) ys =
    cond_both (some_weight x) (x ∷ filter some_weight xs) (filter some_weight xs) (λ l. cond (some_weight x) (x ∷ filter some_weight (xs ++ ys)) (filter some_weight (xs ++ ys)) ≡ l ++ filter some_weight ys)
    (λ is. ap (λ b. cond b (x ∷ filter some_weight (xs ++ ys)) (filter some_weight (xs ++ ys))) is ∙ ap (λ l. x ∷ l) (filter-append xs ys))
    (λ is_not. ap (λ b. cond b (x ∷ filter some_weight (xs ++ ys)) (filter some_weight (xs ++ ys))) is_not ∙ filter-append xs ys)

abbrev pub first_list : Weighting → List Element → List ℕ
first_list weighting es = level_list 1 (weighted weighting es)

pub first_list-append : (weighting : Weighting) (es fs : List Element) → first_list weighting (es ++ fs) ≡ first_list weighting es ++ first_list weighting fs
first_list-append weighting es fs =
    ap (filter some_weight) (first_weights weighting [] (es ++ fs) ∙ map-append (first_weight weighting) es fs)
    ∙ filter-append (map (first_weight weighting) es) (map (first_weight weighting) fs)
    ∙ ap₂ (λ xs ys. filter some_weight xs ++ filter some_weight ys) (sym (first_weights weighting [] es)) (sym (first_weights weighting [] fs))

-- ---- Digits

kept : (w : ℕ) (ws : List ℕ) → w ≢ 0 → filter some_weight (w ∷ ws) ≡ w ∷ filter some_weight ws
kept w ws some = let test : some_weight w ≡ true = grind (arith, nat_tests, some) in ap (λ b. cond b (w ∷ filter some_weight ws) (filter some_weight ws)) test

fixed_weight : (weighting : Weighting) (e : Element) → e.mark ≡ false → first_weight weighting e ≡ e.primary
fixed_weight NonIgnorable e fixed = refl
fixed_weight Shifted e fixed = ap (λ m. cond m 0 e.primary) fixed

module _ (c : Collation) (orders : OrdersNumbers c) where
  weights_of_digits : (weighting : Weighting) (digits : List ℕ) (all : AllByRecursion IsDigit digits) →
      filter some_weight (map (first_weight weighting) (digit_elements c orders digits all)) ≡ map (digit_weight c.rows) digits
  weights_of_digits weighting [] all = refl
  weights_of_digits weighting (d ∷ digits) all =
      let row = row_of_digit c orders d all.0 in
      let weight : first_weight weighting row.element ≡ digit_weight c.rows d = fixed_weight weighting row.element row.fixed ∙ sym row.weight in
      let later = map (first_weight weighting) (digit_elements c orders digits all.1) in
      ap (λ w. filter some_weight (w ∷ later)) weight
      ∙ kept (digit_weight c.rows d) later (orders.weighted d all.0)
      ∙ ap (λ ws. digit_weight c.rows d ∷ ws) (weights_of_digits weighting digits all.1)

  -- digits have their weights at level 1
  pub first_list_of_digits : (weighting : Weighting) (digits : List ℕ) (all : AllByRecursion IsDigit digits) →
      first_list weighting (digit_elements c orders digits all) ≡ map (digit_weight c.rows) digits
  first_list_of_digits weighting digits all =
      ap (filter some_weight) (first_weights weighting [] (digit_elements c orders digits all)) ∙ weights_of_digits weighting digits all
