-- How two texts of plain code points compare.
use Rattle.std.proofs.Common.{◌≡◌, ℕ, ◌<◌, ◌≤◌, List, [], ◌∷◌, ◌++◌, length, append-nil, Bool, true, false, map, Option, Some, None, Result, Ok, Err, slice_index_or, refl, sym, subst, ◌∙◌, arith}
use Rattle.std.specs.Prelude.{IfSome, IfOk}
use Rattle.std.specs.Bool.{OnTrue}
use Rattle.std.specs.List.{flat_map}
use Rattle.std.specs.Str.{chars, IsUtf8}
use Rattle.std.specs.declared.cmp.Ordering.TheVariants.{Equal}
use Rattle.std.proofs.lemmas.List.{length-map}
use Rattle.unicode_normalization.specs.Forms.{nfd, Nfd}
use Rattle.unicode_normalization.proofs.LengthLemmas.{length-normalize-chars}
use Rattle.uca_weights.specs.declared.Element.{Element}
use Rattle.uca_weights.specs.declared.Weighting.{Weighting}
use Rattle.uca_weights.specs.declared.Weighting.TheVariants.{NonIgnorable, Shifted}
use Rattle.uca_text.specs.Texts.{nfd_text}
use Rattle.uca_text.specs.Limits.{HasNoLongRun, IsAccepted}
use Rattle.uca_elements.specs.Collations.{Collation}
use Rattle.uca_comparison.specs.declared.walk.Walked.{Walked}
use Rattle.uca_order.specs.Levels.{level_count}
use Rattle.uca_comparison.specs.Fronts.{FrontState, begun, counted}
use Rattle.uca_comparison.specs.Walks.{Stands, none_decided, decided_level}
use Rattle.uca_comparison.specs.inside.Comparisons.{ComparesLevels}
use Rattle.uca_plain.specs.Plain.{ArePlain, elements_alone}
use Rattle.uca_text_comparer.specs.inside.Shared.{IsRest, BeginsPlain, HasCount, ComparesTexts, ComparesAccepted, flag_after, text_elements}
use Rattle.uca_comparison.proofs.LevelSteps.{walk_answers, all_levels}
use Rattle.uca_text_comparer.proofs.SharedSteps.{stands_after, stands_shared, runs_after, plain_begins}
use Rattle.uca_comparison.proofs.WalkSteps.{stands_begun}
use Rattle.uca_plain.proofs.PlainTexts.{plain_texts, plain_no_long_run}

pub levels_bounds : (weighting : Weighting) → (1 ≤ level_count weighting) × (level_count weighting ≤ 4)
levels_bounds NonIgnorable = (omega arith, omega arith)
levels_bounds Shifted = (omega arith, omega arith)

none_decides : (weighting : Weighting) → 0 ≡ decided_level (level_count weighting) (level_count weighting)
none_decides NonIgnorable = refl
none_decides Shifted = refl

-- a text within the limits is accepted
pub text_accepted : (c : Collation) (text : List ℕ) → IsUtf8 text → length text ≤ 524288 → HasNoLongRun (map c.properties.class (nfd (chars text)))
    → IsAccepted (nfd_text c.properties (chars text))
text_accepted c text utf8 short runs = record {
  same = length-map (nfd (chars text)) c.properties.class;
  few = omega (arith, short, length-normalize-chars Nfd text utf8);
  short_runs = runs;
}

-- what follows what two texts share decides for both, if neither has a long run there
pub texts_compared : (c : Collation) (weighting : Weighting) (xs ys left right : List ℕ) (flag : Bool) (passed : ℕ) (w : Walked)
    → IsRest c xs ys left right flag passed → BeginsPlain c left → BeginsPlain c right
    → HasNoLongRun (map c.properties.class (nfd left)) → HasNoLongRun (map c.properties.class (nfd right))
    → (Stands weighting (text_elements c xs) (text_elements c ys) (record { elements = text_elements c left; after_variable = flag; passed = passed })
    (record { elements = text_elements c right; after_variable = flag; passed = passed }) (none_decided 1 (level_count weighting))
    → ComparesLevels weighting (text_elements c xs) (text_elements c ys) w) → ComparesTexts c weighting xs ys w
texts_compared c weighting xs ys left right flag passed w rest begins begins_too runs runs_too compares = record {
  levels = compares (stands_after c weighting (level_count weighting) xs ys left right flag passed (levels_bounds weighting).0 (levels_bounds weighting).1 rest begins begins_too);
  left_runs = subst (λ l. HasNoLongRun (map c.properties.class (nfd l))) (sym rest.left_is) (runs_after c rest.shared left rest.plain begins runs);
  right_runs = subst (λ l. HasNoLongRun (map c.properties.class (nfd l))) (sym rest.right_is) (runs_after c rest.shared right rest.plain begins_too runs_too);
}

-- the elements of both texts are read
pub both_read : {E : Type 0} (P Q : Type 0) (r : Result Bool E) → P → IfOk r (λ ok. OnTrue ok Q) → IfOk r (λ ok. OnTrue ok (P × Q))
both_read P Q (Ok true) p q = (p, q)
both_read P Q (Ok false) p q = tt
both_read P Q (Err e) p q = tt

-- two texts compare by all elements
pub rest_compared : (c : Collation) (weighting : Weighting) (xs ys left right : List ℕ) (flag : Bool) (passed : ℕ) (ls rs : List Element) (o : Option Walked)
    → IsRest c xs ys left right flag passed → ArePlain c left → ArePlain c right
    → ls ≡ flat_map (elements_alone c) left → rs ≡ flat_map (elements_alone c) right
    → ((es fs : List Element) → Stands weighting es fs (record { elements = ls; after_variable = flag; passed = passed })
    (record { elements = rs; after_variable = flag; passed = passed }) (none_decided 1 (level_count weighting)) → IfSome o (ComparesLevels weighting es fs))
    → IfSome o (ComparesTexts c weighting xs ys)
rest_compared c weighting xs ys left right flag passed ls rs None rest plain plain_too one other compares = tt
rest_compared c weighting xs ys left right flag passed ls rs (Some w) rest plain plain_too one other compares =
    let es = text_elements c xs in
    let fs = text_elements c ys in
    let lefts : text_elements c left ≡ ls = plain_texts c left plain ∙ sym one in
    let rights : text_elements c right ≡ rs = plain_texts c right plain_too ∙ sym other in
    texts_compared c weighting xs ys left right flag passed w rest (plain_begins c left plain) (plain_begins c right plain_too)
    (plain_no_long_run c left plain) (plain_no_long_run c right plain_too)
    (λ stands. compares es fs
    (subst (λ l. Stands weighting es fs (record { elements = ls; after_variable = flag; passed = passed })
    (record { elements = l; after_variable = flag; passed = passed }) (none_decided 1 (level_count weighting))) rights
    (subst (λ l. Stands weighting es fs (record { elements = l; after_variable = flag; passed = passed })
    (record { elements = text_elements c right; after_variable = flag; passed = passed }) (none_decided 1 (level_count weighting))) lefts stands)))

-- ---- The same text

-- nothing is left, and no level differs
same_levels : (weighting : Weighting) (es fs : List Element) (flag : Bool) (count : ℕ)
    → Stands weighting es fs (record { elements = []; after_variable = flag; passed = count })
    (record { elements = []; after_variable = flag; passed = count }) (none_decided 1 (level_count weighting))
    → ComparesLevels weighting es fs
    (record { order = Equal; level = 0; last = level_count weighting; fetched_left = count; fetched_right = count })
same_levels weighting es fs flag count stands =
    let last = level_count weighting in
    let front : FrontState = record { elements = []; after_variable = flag; passed = count } in
    all_levels weighting es fs (record { order = Equal; level = 0; last = last; fetched_left = count; fetched_right = count })
    (walk_answers weighting es fs front front (none_decided 1 last) 1 last 0 count count stands (record { ends = λ some. (refl, refl) }) refl (omega arith)
    (none_decides weighting) refl refl)
    (λ e. omega arith)

-- all elements of a text are fetched to compare it with itself
pub itself_compared : (weighting : Weighting) (es : List Element) (count last : ℕ) → count ≡ counted 0 (length es) → last ≡ level_count weighting
    → ComparesLevels weighting es es (record { order = Equal; level = 0; last = last; fetched_left = count; fetched_right = count })
itself_compared weighting es count last is all =
    let n = level_count weighting in
    let bounds = levels_bounds weighting in
    let flag = flag_after false es in
    let begin = stands_begun weighting es es 1 n (begun es) (begun es) refl refl bounds.0 bounds.1 in
    let whole = subst (λ l. Stands weighting es es (begun l) (begun l) (none_decided 1 n)) (sym (append-nil es)) begin in
    let after = stands_shared weighting es es es [] [] false 0 (none_decided 1 n) (omega arith) bounds.0 whole in
    let stands = subst (λ k. Stands weighting es es (record { elements = []; after_variable = flag; passed = k })
    (record { elements = []; after_variable = flag; passed = k }) (none_decided 1 n)) (sym is) after in
    subst (λ k. ComparesLevels weighting es es (record { order = Equal; level = 0; last = k; fetched_left = count; fetched_right = count })) (sym all)
    (same_levels weighting es es flag count stands)

-- a text of plain code points is equal to itself, and all its elements are fetched
pub same_compared : (c : Collation) (weighting : Weighting) (xs : List ℕ) (count last : ℕ) → HasCount c xs count → last ≡ level_count weighting
    → ComparesTexts c weighting xs xs (record { order = Equal; level = 0; last = last; fetched_left = count; fetched_right = count })
same_compared c weighting xs count last has all =
    let flag = flag_after false (flat_map (elements_alone c) xs) in
    let none = plain_texts c [] tt in
    let whole : xs ≡ xs ++ [] = sym (append-nil xs) in
    let rest : IsRest c xs xs [] [] flag count = record {
      shared = xs;
      left_is = whole;
      right_is = whole;
      plain = has.plain;
      flag_is = refl;
      passed_is = has.count_is;
    } in
    let runs = plain_no_long_run c [] tt in
    subst (λ n. ComparesTexts c weighting xs xs (record { order = Equal; level = 0; last = n; fetched_left = count; fetched_right = count })) (sym all)
    (texts_compared c weighting xs xs [] [] flag count
    (record { order = Equal; level = 0; last = level_count weighting; fetched_left = count; fetched_right = count }) rest tt tt runs runs
    (λ stands. same_levels weighting (text_elements c xs) (text_elements c xs) flag count
    (subst (λ l. Stands weighting (text_elements c xs) (text_elements c xs) (record { elements = l; after_variable = flag; passed = count })
    (record { elements = l; after_variable = flag; passed = count }) (none_decided 1 (level_count weighting))) none stands)))

-- ---- Limits

-- within the limits both are accepted
pub accepted_found : (c : Collation) (weighting : Weighting) (left right : List ℕ) (o : Option Walked) → IsUtf8 left → IsUtf8 right
    → length left ≤ 524288 → length right ≤ 524288 → IfSome o (ComparesTexts c weighting (chars left) (chars right))
    → IfSome o (ComparesAccepted c weighting (chars left) (chars right))
accepted_found c weighting left right (Some w) utf8 utf8_too short short_too is = record {
  levels = is.levels;
  left = text_accepted c left utf8 short is.left_runs;
  right = text_accepted c right utf8_too short_too is.right_runs;
}
accepted_found c weighting left right None utf8 utf8_too short short_too is = tt

pub accepted_compared : {E : Type 0} (c : Collation) (weighting : Weighting) (left right : List ℕ) (r : Result (Option Walked) E) → IsUtf8 left → IsUtf8 right
    → length left ≤ 524288 → length right ≤ 524288 → IfOk r (λ o. IfSome o (ComparesTexts c weighting (chars left) (chars right)))
    → IfOk r (λ o. IfSome o (ComparesAccepted c weighting (chars left) (chars right)))
accepted_compared c weighting left right (Ok o) utf8 utf8_too short short_too is = accepted_found c weighting left right o utf8 utf8_too short short_too is
accepted_compared c weighting left right (Err e) utf8 utf8_too short short_too is = tt

-- one element
pub only_of : (es : List Element) (d : Element) → 1 ≤ length es → length es < 2 → es ≡ slice_index_or es 0 d ∷ []
only_of [] d some few = absurd (omega (arith, some))
only_of (e ∷ []) d some few = refl
only_of (e ∷ f ∷ es) d some few = absurd (omega (arith, few))
