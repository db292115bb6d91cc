-- Two texts go on side by side at level 1.
use Rattle.std.proofs.Common.{◌≡◌, ℕ, suc, ◌+◌, ◌≤◌, List, [], ◌∷◌, ◌++◌, length, Bool, true, false, nat_eq, map, min, Option, Some, None, is_some, not, slice_index_or, drop, inr, refl, sym, ap, subst, ◌∙◌, append-nil, append_assoc, arith}
use Rattle.std.specs.Prelude.{IfSome}
use Rattle.std.specs.List.{flat_map}
use Rattle.std.specs.Str.{chars, IsUtf8}
use Rattle.std.specs.declared.cmp.Ordering.{Ordering}
use Rattle.std.proofs.lemmas.Bool.{eqb-true}
use Rattle.std.proofs.lemmas.Grind.{flat_map-append}
use Rattle.std.proofs.lemmas.List.{length-map}
use Rattle.unicode_normalization.specs.Forms.{nfd, Nfd}
use Rattle.unicode_normalization.proofs.LengthLemmas.{length-normalize-chars}
use Rattle.uca_weights.specs.declared.Element.{Element}
use Rattle.uca_weights.specs.declared.Weighting.{Weighting}
use Rattle.uca_weights.specs.declared.Weighting.TheVariants.{NonIgnorable, Shifted}
use Rattle.uca_weights.proofs.Lists.{each_append}
use Rattle.uca_text.specs.Limits.{HasNoLongRun}
use Rattle.uca_text.proofs.Runs.{few_have_no_long_run}
use Rattle.uca_elements.specs.Collations.{Collation}
use Rattle.uca_comparison.specs.declared.walk.LevelsSoFar.{LevelsSoFar}
use Rattle.uca_comparison.specs.declared.walk.Step.TheVariants.{Both, Left, Right}
use Rattle.uca_comparison.specs.declared.walk.Walked.{Walked}
use Rattle.uca_order.specs.Levels.{level_count, weight_at, weights_of, shifted_weights}
use Rattle.uca_order.specs.StreamedWeights.{is_after_variable}
use Rattle.uca_comparison.specs.Fronts.{FrontState, begun, counted, weight_here, is_empty, is_ended, fetched}
use Rattle.uca_comparison.specs.Walks.{Allows, Stands, Differs, none_decided}
use Rattle.uca_comparison.specs.inside.Comparisons.{ComparesLevels}
use Rattle.uca_plain.specs.Plain.{IsPlain, elements_alone}
use Rattle.uca_text_comparer.specs.inside.Shared.{flag_after, IsRest, IsFirst, BeginsPlain, HasFirst, ComparesTexts, text_elements}
use Rattle.uca_text_comparer.specs.Heads.{primary_of, HaveNone, IsHeaded}
use Rattle.uca_text_comparer.specs.inside.Primaries.{GoTogether}
use Rattle.uca_comparison.proofs.WalkSteps.{stands_begun, stands_both, stands_left, stands_right, stands_decided}
use Rattle.uca_comparison.proofs.LevelSteps.{walk_answers, all_levels}
use Rattle.uca_comparison.proofs.Counts.{counted_more, counted_small, counted_is}
use Rattle.uca_text_comparer.proofs.SharedSteps.{elements_after, runs_after, first_is, stands_shared}
use Rattle.uca_text_comparer.proofs.PlainComparisons.{levels_bounds}
use Rattle.uca_plain.proofs.PlainTexts.{plain_texts, plain_no_long_run}

-- ---- Weights at level 1

shifted_one : (flag : Bool) (e : Element) (m i : Bool) → e.mark ≡ m → nat_eq e.primary 0 ≡ i
    → weight_at 1 (shifted_weights flag e) ≡ primary_of Shifted e
shifted_one flag e true i marked is = rw marked refl
shifted_one true e false true marked is = rw marked (rw is (sym (eqb-true e.primary 0 is)))
shifted_one false e false true marked is = rw marked (rw is refl)
shifted_one flag e false false marked is = rw marked (rw is refl)

pub level_one : (weighting : Weighting) (flag : Bool) (e : Element) → weight_at 1 (weights_of weighting flag e) ≡ primary_of weighting e
level_one NonIgnorable flag e = refl
level_one Shifted flag e = shifted_one flag e e.mark (nat_eq e.primary 0) refl refl

pub some_weight : (weighting : Weighting) (e : Element) (es : List Element) (flag : Bool) (passed weight : ℕ) → IsFirst (Some e) es
    → weight ≡ primary_of weighting e → weight ≡ weight_here weighting 1 (record { elements = es; after_variable = flag; passed = passed })
some_weight weighting e es flag passed weight first is =
    is ∙ sym (level_one weighting flag e)
    ∙ ap (λ l. weight_here weighting 1 (record { elements = l; after_variable = flag; passed = passed })) (sym first.1)

pub none_weight : (weighting : Weighting) (es : List Element) (flag : Bool) (passed : ℕ) → IsFirst None es
    → 0 ≡ weight_here weighting 1 (record { elements = es; after_variable = flag; passed = passed })
none_weight weighting es flag passed first = ap (λ l. weight_here weighting 1 (record { elements = l; after_variable = flag; passed = passed })) (sym first)

-- ---- Fronts

module _ (weighting : Weighting) (es fs : List Element) where
  left_on : (zeros ls : List Element) (flag : Bool) (passed : ℕ) (right : FrontState) → HaveNone weighting zeros
      → Stands weighting es fs (record { elements = zeros ++ ls; after_variable = flag; passed = passed }) right (none_decided 1 1)
      → Stands weighting es fs (record { elements = ls; after_variable = flag_after flag zeros; passed = counted passed (length zeros) }) right (none_decided 1 1)
  left_on [] ls flag passed right none stands = stands
  left_on (e ∷ zeros) ls flag passed right none stands =
      let left : FrontState = record { elements = (e ∷ zeros) ++ ls; after_variable = flag; passed = passed } in
      let next = stands_left weighting es fs left right (none_decided 1 1) stands (omega arith)
      (λ level low high. let is : 1 ≡ level = omega (arith, low, high) in
      subst (λ n. Allows weighting Left n left right) is (level_one weighting flag e ∙ none.0, refl)) in
      let after = left_on zeros ls (is_after_variable flag e) (counted passed 1) right none.1 next in
      let sum : 1 + length zeros ≡ suc (length zeros) = omega arith in
      subst (λ n. Stands weighting es fs (record { elements = ls; after_variable = flag_after flag (e ∷ zeros); passed = n }) right (none_decided 1 1))
      (counted_more passed 1 (length zeros) ∙ ap (counted passed) sum) after

  right_on : (zeros rs : List Element) (flag : Bool) (passed : ℕ) (left : FrontState) → HaveNone weighting zeros
      → Stands weighting es fs left (record { elements = zeros ++ rs; after_variable = flag; passed = passed }) (none_decided 1 1)
      → Stands weighting es fs left (record { elements = rs; after_variable = flag_after flag zeros; passed = counted passed (length zeros) }) (none_decided 1 1)
  right_on [] rs flag passed left none stands = stands
  right_on (e ∷ zeros) rs flag passed left none stands =
      let right : FrontState = record { elements = (e ∷ zeros) ++ rs; after_variable = flag; passed = passed } in
      let next = stands_right weighting es fs left right (none_decided 1 1) stands (omega arith)
      (λ level low high. let is : 1 ≡ level = omega (arith, low, high) in
      subst (λ n. Allows weighting Right n left right) is (level_one weighting flag e ∙ none.0, refl)) in
      let after = right_on zeros rs (is_after_variable flag e) (counted passed 1) left none.1 next in
      let sum : 1 + length zeros ≡ suc (length zeros) = omega arith in
      subst (λ n. Stands weighting es fs left (record { elements = rs; after_variable = flag_after flag (e ∷ zeros); passed = n }) (none_decided 1 1))
      (counted_more passed 1 (length zeros) ∙ ap (counted passed) sum) after

  -- the elements of a code point of each text
  pair_on : (a b ls rs : List Element) (weight : ℕ) (f g : Bool) (m n : ℕ) → IsHeaded weighting weight a → IsHeaded weighting weight b
      → Stands weighting es fs (record { elements = a ++ ls; after_variable = f; passed = m }) (record { elements = b ++ rs; after_variable = g; passed = n }) (none_decided 1 1)
      → Stands weighting es fs (record { elements = ls; after_variable = flag_after f a; passed = counted m (length a) })
      (record { elements = rs; after_variable = flag_after g b; passed = counted n (length b) }) (none_decided 1 1)
  pair_on [] b ls rs weight f g m n one other stands = absurd one
  pair_on (x ∷ a) [] ls rs weight f g m n one other stands = absurd other
  pair_on (x ∷ a) (y ∷ b) ls rs weight f g m n one other stands =
      let left : FrontState = record { elements = (x ∷ a) ++ ls; after_variable = f; passed = m } in
      let right : FrontState = record { elements = (y ∷ b) ++ rs; after_variable = g; passed = n } in
      let both = stands_both weighting es fs left right (none_decided 1 1) Both stands (omega arith) (inr refl)
      (λ level low high. let is : 1 ≡ level = omega (arith, low, high) in
      subst (λ k. Allows weighting Both k left right) is (level_one weighting f x ∙ one.0 ∙ sym other.0 ∙ sym (level_one weighting g y))) in
      let first = left_on a ls (is_after_variable f x) (counted m 1)
      (record { elements = b ++ rs; after_variable = is_after_variable g y; passed = counted n 1 }) one.1 both in
      let second = right_on b rs (is_after_variable g y) (counted n 1)
      (record { elements = ls; after_variable = flag_after f (x ∷ a); passed = counted (counted m 1) (length a) }) other.1 first in
      let sum : 1 + length a ≡ suc (length a) = omega arith in
      let sum_too : 1 + length b ≡ suc (length b) = omega arith in
      subst (λ k. Stands weighting es fs (record { elements = ls; after_variable = flag_after f (x ∷ a); passed = k })
      (record { elements = rs; after_variable = flag_after g (y ∷ b); passed = counted n (length (y ∷ b)) }) (none_decided 1 1))
      (counted_more m 1 (length a) ∙ ap (counted m) sum)
      (subst (λ k. Stands weighting es fs (record { elements = ls; after_variable = flag_after f (x ∷ a); passed = counted (counted m 1) (length a) })
      (record { elements = rs; after_variable = flag_after g (y ∷ b); passed = k }) (none_decided 1 1))
      (counted_more n 1 (length b) ∙ ap (counted n) sum_too) second)

-- ---- Texts

pub together_begun : (c : Collation) (weighting : Weighting) (xs ys left right : List ℕ) (flag : Bool) (passed : ℕ)
    → IsRest c xs ys left right flag passed → GoTogether c weighting xs ys left right passed passed
together_begun c weighting xs ys left right flag passed rest =
    let p = flat_map (elements_alone c) rest.shared in
    let few : passed ≤ 18446744073709551615 = omega (arith, rest.passed_is, counted_small (length p)) in
    record {
      before_left = rest.shared;
      before_right = rest.shared;
      left_is = rest.left_is;
      right_is = rest.right_is;
      plain_left = rest.plain;
      plain_right = rest.plain;
      few_left = few;
      few_right = few;
      flag_left = flag_after false p;
      flag_right = flag_after false p;
      stands = λ ls rs.
          let begin = stands_begun weighting (p ++ ls) (p ++ rs) 1 1 (begun (p ++ ls)) (begun (p ++ rs)) refl refl (omega arith) (omega arith) in
          let after = stands_shared weighting (p ++ ls) (p ++ rs) p ls rs false 0 (none_decided 1 1) (omega arith) (omega arith) begin in
          subst (λ n. Stands weighting (p ++ ls) (p ++ rs) (record { elements = ls; after_variable = flag_after false p; passed = n })
          (record { elements = rs; after_variable = flag_after false p; passed = n }) (none_decided 1 1)) (sym rest.passed_is) after;
    }

elements_more : (c : Collation) (before : List ℕ) (x : ℕ) (a ls : List Element) → a ≡ elements_alone c x
    → flat_map (elements_alone c) before ++ (a ++ ls) ≡ flat_map (elements_alone c) (before ++ x ∷ []) ++ ls
elements_more c before x a ls are =
    let p = flat_map (elements_alone c) before in
    let all : flat_map (elements_alone c) (before ++ x ∷ []) ≡ p ++ a =
    flat_map-append (elements_alone c) before (x ∷ []) ∙ ap (λ l. p ++ l) (append-nil (elements_alone c x) ∙ sym are) in
    sym (ap (λ l. l ++ ls) all ∙ append_assoc p a ls)

-- after a code point of each
pub together_on : (c : Collation) (weighting : Weighting) (xs ys left right left1 right1 : List ℕ) (x y : ℕ) (a b : List Element) (weight m n m1 n1 : ℕ)
    → GoTogether c weighting xs ys left right m n → left ≡ x ∷ left1 → right ≡ y ∷ right1 → IsPlain c x → IsPlain c y
    → a ≡ elements_alone c x → b ≡ elements_alone c y → IsHeaded weighting weight a → IsHeaded weighting weight b
    → m1 ≡ min (m + length a) 18446744073709551615 → n1 ≡ min (n + length b) 18446744073709551615
    → GoTogether c weighting xs ys left1 right1 m1 n1
together_on c weighting xs ys left right left1 right1 x y a b weight m n m1 n1 so_far first other plain plain_too are are_too one two is is_too =
    let bl = so_far.before_left in
    let br = so_far.before_right in
    record {
      before_left = bl ++ x ∷ [];
      before_right = br ++ y ∷ [];
      left_is = so_far.left_is ∙ ap (λ l. bl ++ l) first ∙ sym (append_assoc bl (x ∷ []) left1);
      right_is = so_far.right_is ∙ ap (λ l. br ++ l) other ∙ sym (append_assoc br (y ∷ []) right1);
      plain_left = each_append (IsPlain c) bl (x ∷ []) so_far.plain_left (plain, tt);
      plain_right = each_append (IsPlain c) br (y ∷ []) so_far.plain_right (plain_too, tt);
      few_left = omega (arith, is);
      few_right = omega (arith, is_too);
      flag_left = flag_after so_far.flag_left a;
      flag_right = flag_after so_far.flag_right b;
      stands = λ ls rs.
          let es = flat_map (elements_alone c) bl ++ (a ++ ls) in
          let fs = flat_map (elements_alone c) br ++ (b ++ rs) in
          let on = pair_on weighting es fs a b ls rs weight so_far.flag_left so_far.flag_right m n one two (so_far.stands (a ++ ls) (b ++ rs)) in
          let left_front : ℕ → FrontState = λ k. record { elements = ls; after_variable = flag_after so_far.flag_left a; passed = k } in
          let right_front : ℕ → FrontState = λ k. record { elements = rs; after_variable = flag_after so_far.flag_right b; passed = k } in
          subst (λ l. Stands weighting l (flat_map (elements_alone c) (br ++ y ∷ []) ++ rs) (left_front m1) (right_front n1) (none_decided 1 1))
          (elements_more c bl x a ls are)
          (subst (λ l. Stands weighting es l (left_front m1) (right_front n1) (none_decided 1 1)) (elements_more c br y b rs are_too)
          (subst (λ k. Stands weighting es fs (left_front k) (right_front n1) (none_decided 1 1)) (sym (is ∙ counted_is m (length a) so_far.few_left))
          (subst (λ k. Stands weighting es fs (left_front (counted m (length a))) (right_front k) (none_decided 1 1))
          (sym (is_too ∙ counted_is n (length b) so_far.few_right)) on)));
    }

-- ---- The first elements

-- there is no first element where a text has none
pub first_ended : (first : Option Element) (es : List Element) (r : Bool) → IsFirst first es → is_some first ≡ not r → r ≡ is_empty es
first_ended None es true is h = ap is_empty (sym is)
first_ended None es false is h = absurd cc
first_ended (Some e) es true is h = absurd cc
first_ended (Some e) es false is h = ap is_empty (sym is.1)

-- the first level decides at the fronts
pub first_decides : (weighting : Weighting) (es fs : List Element) (left right : FrontState) (order : Ordering) (f g : ℕ)
    → Stands weighting es fs left right (none_decided 1 1)
    → Differs (weight_here weighting 1 left) (weight_here weighting 1 right) (is_ended left) (is_ended right) order
    → f ≡ fetched left → g ≡ fetched right
    → ComparesLevels weighting es fs (record { order = order; level = 1; last = 1; fetched_left = f; fetched_right = g })
first_decides weighting es fs left right order f g stands differs one other =
    let bounds = levels_bounds weighting in
    let t : LevelsSoFar = record { first = 1; through = 0; last = 1; order = order } in
    let decided = stands_decided weighting es fs left right (none_decided 1 1) t 1 stands (omega arith) (omega arith) (omega arith) refl refl refl differs in
    all_levels weighting es fs (record { order = order; level = 1; last = 1; fetched_left = f; fetched_right = g })
    (walk_answers weighting es fs left right t 1 (level_count weighting) 1 f g decided (record { ends = λ some. absurd (omega (arith, some)) }) refl bounds.0
    refl one other)
    (λ e. absurd ((decided.decided (omega arith)).1 e))

-- a short text has no long run
pub short_no_long_run : (class : ℕ → ℕ) (text : List ℕ) → IsUtf8 text → length text ≤ 32 → HasNoLongRun (map class (nfd (chars text)))
short_no_long_run class text utf8 short =
    few_have_no_long_run (map class (nfd (chars text))) (omega (arith, short, length-map (nfd (chars text)) class, length-normalize-chars Nfd text utf8))

pub empty_first : (c : Collation) (xs : List ℕ) → xs ≡ [] → HasFirst c xs None
empty_first c xs is =
    subst (λ l. HasFirst c l None) (sym is) (record { begins = tt; first_is = plain_texts c [] tt; runs = plain_no_long_run c [] tt })

pub some_first : (c : Collation) (text ys : List ℕ) (x : ℕ) (e : Element) (es more : List Element) → IsUtf8 text → length text ≤ 32 → chars text ≡ x ∷ ys
    → IsPlain c x → es ≡ elements_alone c x → es ≡ e ∷ more → BeginsPlain c ys → HasFirst c (chars text) (Some e)
some_first c text ys x e es more utf8 short is plain are begin begins = record {
  begins = subst (BeginsPlain c) (sym is) plain;
  first_is = subst (λ l. IsFirst (Some e) (text_elements c l)) (sym is) (first_is c x ys e more plain begins (sym are ∙ begin));
  runs = short_no_long_run c.properties.class text utf8 short;
}

pub first_of_some : (es : List Element) (d : Element) → 1 ≤ length es → es ≡ slice_index_or es 0 d ∷ drop 1 es
first_of_some [] d some = absurd (omega (arith, some))
first_of_some (e ∷ es) d some = refl

-- two texts compare by them
pub pair_compared : (c : Collation) (weighting : Weighting) (xs ys left right : List ℕ) (m n : ℕ) (first second : Option Element) (o : Option Walked)
    → GoTogether c weighting xs ys left right m n → HasFirst c left first → HasFirst c right second
    → ((es fs ls rs : List Element) (f g : Bool) → IsFirst first ls → IsFirst second rs
    → Stands weighting es fs (record { elements = ls; after_variable = f; passed = m })
    (record { elements = rs; after_variable = g; passed = n }) (none_decided 1 1) → IfSome o (ComparesLevels weighting es fs))
    → IfSome o (ComparesTexts c weighting xs ys)
pair_compared c weighting xs ys left right m n first second None together one other compares = tt
pair_compared c weighting xs ys left right m n first second (Some w) together one other compares =
    let bl = together.before_left in
    let br = together.before_right in
    let left_front : FrontState = record { elements = text_elements c left; after_variable = together.flag_left; passed = m } in
    let right_front : FrontState = record { elements = text_elements c right; after_variable = together.flag_right; passed = n } in
    let es : text_elements c xs ≡ flat_map (elements_alone c) bl ++ text_elements c left =
    ap (text_elements c) together.left_is ∙ elements_after c bl left together.plain_left one.begins in
    let fs : text_elements c ys ≡ flat_map (elements_alone c) br ++ text_elements c right =
    ap (text_elements c) together.right_is ∙ elements_after c br right together.plain_right other.begins in
    record {
      levels = compares (text_elements c xs) (text_elements c ys) (text_elements c left) (text_elements c right) together.flag_left together.flag_right
          one.first_is other.first_is
          (subst (λ l. Stands weighting l (text_elements c ys) left_front right_front (none_decided 1 1)) (sym es)
          (subst (λ l. Stands weighting (flat_map (elements_alone c) bl ++ text_elements c left) l left_front right_front (none_decided 1 1)) (sym fs)
          (together.stands (text_elements c left) (text_elements c right))));
      left_runs = subst (λ l. HasNoLongRun (map c.properties.class (nfd l))) (sym together.left_is) (runs_after c bl left together.plain_left one.begins one.runs);
      right_runs = subst (λ l. HasNoLongRun (map c.properties.class (nfd l))) (sym together.right_is)
          (runs_after c br right together.plain_right other.begins other.runs);
    }
