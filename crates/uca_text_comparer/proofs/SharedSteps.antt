-- What two texts have in common at their begin, and the fronts that follow it.
use Rattle.std.proofs.Common.{◌≡◌, ℕ, suc, ◌+◌, ◌≤◌, List, [], ◌∷◌, ◌++◌, length, Bool, false, map, min, Some, refl, sym, ap, subst, ◌∙◌, append-nil, append_assoc, arith, length-append}
use Rattle.std.specs.List.{flat_map}
use Rattle.std.proofs.lemmas.Grind.{flat_map-append}
use Rattle.unicode_normalization.specs.Forms.{nfd}
use Rattle.uca_weights.specs.declared.Element.{Element}
use Rattle.uca_weights.specs.declared.Weighting.{Weighting}
use Rattle.uca_weights.proofs.Lists.{each_append}
use Rattle.uca_text.specs.Limits.{HasNoLongRun}
use Rattle.uca_text.proofs.NfdPieces.{pieces_have_no_long_run}
use Rattle.uca_elements.specs.Collations.{Collation}
use Rattle.uca_comparison.specs.declared.walk.LevelsSoFar.{LevelsSoFar}
use Rattle.uca_order.specs.StreamedWeights.{is_after_variable}
use Rattle.uca_comparison.specs.Fronts.{begun, counted}
use Rattle.uca_comparison.specs.Walks.{Stands, none_decided}
use Rattle.uca_plain.specs.Plain.{IsPlain, ArePlain, elements_alone}
use Rattle.uca_text_comparer.specs.inside.Shared.{flag_after, IsRest, IsFirst, BeginsPlain, HasCount, text_elements}
use Rattle.uca_comparison.proofs.Counts.{counted_more, counted_small, counted_is}
use Rattle.uca_comparison.proofs.WalkSteps.{stands_begun, stands_agreed}
use Rattle.uca_plain.proofs.PlainTexts.{read_before, plain_texts, plain_no_long_run}

-- ---- Flags

pub flag_append : (flag : Bool) (p q : List Element) → flag_after flag (p ++ q) ≡ flag_after (flag_after flag p) q
flag_append flag [] q = refl
flag_append flag (e ∷ p) q = flag_append (is_after_variable flag e) p q

-- ---- What both texts begin with

pub rest_begun : (c : Collation) (xs ys : List ℕ) → IsRest c xs ys xs ys false 0
rest_begun c xs ys = record { shared = []; left_is = refl; right_is = refl; plain = tt; flag_is = refl; passed_is = refl }

-- ---- Counts of elements

pub plain_on : (c : Collation) (xs : List ℕ) (x y : ℕ) → y ≡ x → ArePlain c xs → IsPlain c y → ArePlain c (xs ++ x ∷ [])
plain_on c xs x y same plain last = each_append (IsPlain c) xs (x ∷ []) plain (subst (IsPlain c) same last, tt)

-- a count with the elements of one more code point
count_step : (c : Collation) (xs : List ℕ) (x : ℕ) (es : List Element) (count count1 : ℕ) → es ≡ elements_alone c x
    → count ≡ counted 0 (length (flat_map (elements_alone c) xs)) → count1 ≡ min (count + length es) 18446744073709551615
    → count1 ≡ counted 0 (length (flat_map (elements_alone c) (xs ++ x ∷ [])))
count_step c xs x es count count1 are is is_more =
    let before = flat_map (elements_alone c) xs in
    let all : flat_map (elements_alone c) (xs ++ x ∷ []) ≡ before ++ es =
    flat_map-append (elements_alone c) xs (x ∷ []) ∙ ap (λ l. before ++ l) (append-nil (elements_alone c x) ∙ sym are) in
    is_more ∙ counted_is count (length es) (omega (arith, is, counted_small (length before)))
    ∙ ap (λ n. counted n (length es)) is ∙ counted_more 0 (length before) (length es)
    ∙ ap (counted 0) (sym (length-append before es)) ∙ ap (λ (l : List Element). counted 0 (length l)) (sym all)

pub count_begun : (c : Collation) → HasCount c [] 0
count_begun c = record { plain = tt; count_is = refl }

pub count_on : (c : Collation) (xs : List ℕ) (x y : ℕ) (es : List Element) (count count1 : ℕ) → y ≡ x → HasCount c xs count → IsPlain c y
    → es ≡ elements_alone c y → count1 ≡ min (count + length es) 18446744073709551615 → HasCount c (xs ++ x ∷ []) count1
count_on c xs x y es count count1 same so_far plain are is = record {
  plain = plain_on c xs x y same so_far.plain plain;
  count_is = count_step c xs x es count count1 (are ∙ ap (elements_alone c) same) so_far.count_is is;
}

-- ---- One more code point that both have

pub rest_on : (c : Collation) (xs ys left right left1 right1 : List ℕ) (x : ℕ) (es : List Element) (flag flag1 : Bool) (passed passed1 : ℕ)
    → IsRest c xs ys left right flag passed → left ≡ x ∷ left1 → right ≡ x ∷ right1 → IsPlain c x → es ≡ elements_alone c x
    → flag1 ≡ flag_after flag es → passed1 ≡ min (passed + length es) 18446744073709551615 → IsRest c xs ys left1 right1 flag1 passed1
rest_on c xs ys left right left1 right1 x es flag flag1 passed passed1 rest first other plain are flag_is passed_is =
    let before = flat_map (elements_alone c) rest.shared in
    let one : flat_map (elements_alone c) (rest.shared ++ x ∷ []) ≡ before ++ es =
    flat_map-append (elements_alone c) rest.shared (x ∷ []) ∙ ap (λ l. before ++ l) (append-nil (elements_alone c x) ∙ sym are) in
    record {
      shared = rest.shared ++ x ∷ [];
      left_is = rest.left_is ∙ ap (λ l. rest.shared ++ l) first ∙ sym (append_assoc rest.shared (x ∷ []) left1);
      right_is = rest.right_is ∙ ap (λ l. rest.shared ++ l) other ∙ sym (append_assoc rest.shared (x ∷ []) right1);
      plain = each_append (IsPlain c) rest.shared (x ∷ []) rest.plain (plain, tt);
      flag_is = flag_is ∙ ap (λ f. flag_after f es) rest.flag_is ∙ sym (flag_append false before es) ∙ ap (flag_after false) (sym one);
      passed_is = count_step c rest.shared x es passed passed1 are rest.passed_is passed_is;
    }

module _ (c : Collation) where
  -- elements of a text after plain code points
  pub elements_after : (shared left : List ℕ) → ArePlain c shared → BeginsPlain c left
      → text_elements c (shared ++ left) ≡ flat_map (elements_alone c) shared ++ text_elements c left
  elements_after shared [] plain begins =
      ap (text_elements c) (append-nil shared) ∙ plain_texts c shared plain
      ∙ sym (ap (λ es. flat_map (elements_alone c) shared ++ es) (plain_texts c [] tt) ∙ append-nil (flat_map (elements_alone c) shared))
  elements_after shared (x ∷ xs) plain begins =
      read_before c shared x xs begins ∙ ap (λ es. es ++ text_elements c (x ∷ xs)) (plain_texts c shared plain)

  pub runs_after : (shared left : List ℕ) → ArePlain c shared → BeginsPlain c left
      → HasNoLongRun (map c.properties.class (nfd left)) → HasNoLongRun (map c.properties.class (nfd (shared ++ left)))
  runs_after shared [] plain begins runs =
      subst (λ l. HasNoLongRun (map c.properties.class (nfd l))) (sym (append-nil shared)) (plain_no_long_run c shared plain)
  runs_after shared (x ∷ xs) plain begins runs =
      pieces_have_no_long_run x begins.first begins.more begins.split begins.starter c.properties.class begins.class shared xs
      (plain_no_long_run c shared plain) runs

  -- the first element of a text
  pub first_is : (x : ℕ) (xs : List ℕ) (e : Element) (more : List Element) → IsPlain c x → BeginsPlain c xs → elements_alone c x ≡ e ∷ more
      → IsFirst (Some e) (text_elements c (x ∷ xs))
  first_is x xs e more plain begins is = (
    more ++ text_elements c xs,
    elements_after (x ∷ []) xs (plain, tt) begins
        ∙ ap (λ es. es ++ text_elements c xs) (append-nil (elements_alone c x) ∙ is),
  )

  pub plain_begins : (xs : List ℕ) → ArePlain c xs → BeginsPlain c xs
  plain_begins [] plain = tt
  plain_begins (x ∷ xs) plain = plain.0

-- ---- Fronts that follow it

pub stands_shared : (weighting : Weighting) (es fs p left right : List Element) (flag : Bool) (passed : ℕ) (s : LevelsSoFar) → 1 ≤ s.first → s.first ≤ s.through
    → Stands weighting es fs (record { elements = p ++ left; after_variable = flag; passed = passed })
    (record { elements = p ++ right; after_variable = flag; passed = passed }) s
    → Stands weighting es fs (record { elements = left; after_variable = flag_after flag p; passed = counted passed (length p) })
    (record { elements = right; after_variable = flag_after flag p; passed = counted passed (length p) }) s
stands_shared weighting es fs [] left right flag passed s one some stands = stands
stands_shared weighting es fs (e ∷ p) left right flag passed s one some stands =
    let next = stands_agreed weighting es fs (record { elements = (e ∷ p) ++ left; after_variable = flag; passed = passed })
    (record { elements = (e ∷ p) ++ right; after_variable = flag; passed = passed }) s stands one some refl in
    let after = stands_shared weighting es fs p left right (is_after_variable flag e) (counted passed 1) s one some next in
    let count : counted (counted passed 1) (length p) ≡ counted passed (suc (length p)) =
    counted_more passed 1 (length p) ∙ (let e : 1 + length p ≡ suc (length p) = omega arith in ap (counted passed) e) in
    subst
    (λ n. Stands weighting es fs (record { elements = left; after_variable = flag_after flag (e ∷ p); passed = n })
    (record { elements = right; after_variable = flag_after flag (e ∷ p); passed = n }) s)
    count after

-- after what both texts begin with no level is decided
pub stands_after : (c : Collation) (weighting : Weighting) (last : ℕ) (xs ys left right : List ℕ) (flag : Bool) (passed : ℕ) → 1 ≤ last → last ≤ 4
    → IsRest c xs ys left right flag passed → BeginsPlain c left → BeginsPlain c right
    → Stands weighting (text_elements c xs) (text_elements c ys) (record { elements = text_elements c left; after_variable = flag; passed = passed })
    (record { elements = text_elements c right; after_variable = flag; passed = passed }) (none_decided 1 last)
stands_after c weighting last xs ys left right flag passed some few rest begins begins_too =
    let es = text_elements c xs in
    let fs = text_elements c ys in
    let p = flat_map (elements_alone c) rest.shared in
    let first : es ≡ p ++ text_elements c left = ap (text_elements c) rest.left_is ∙ elements_after c rest.shared left rest.plain begins in
    let other : fs ≡ p ++ text_elements c right = ap (text_elements c) rest.right_is ∙ elements_after c rest.shared right rest.plain begins_too in
    let begin = stands_begun weighting es fs 1 last (begun es) (begun fs) refl refl some few in
    let split = subst (λ l. Stands weighting es fs (begun (p ++ text_elements c left)) (begun l) (none_decided 1 last)) other
    (subst (λ l. Stands weighting es fs (begun l) (begun fs) (none_decided 1 last)) first begin) in
    let after = stands_shared weighting es fs p (text_elements c left) (text_elements c right) false 0 (none_decided 1 last) (omega arith) some split in
    subst (λ n. Stands weighting es fs (record { elements = text_elements c left; after_variable = flag; passed = n })
    (record { elements = text_elements c right; after_variable = flag; passed = n }) (none_decided 1 last)) (sym rest.passed_is)
    (subst (λ f. Stands weighting es fs (record { elements = text_elements c left; after_variable = f; passed = counted 0 (length p) })
    (record { elements = text_elements c right; after_variable = f; passed = counted 0 (length p) }) (none_decided 1 last)) (sym rest.flag_is) after)

-- ---- Texts of plain code points

pub elements_on : (c : Collation) (xs : List ℕ) (x y : ℕ) (before es items : List Element) → y ≡ x → before ≡ flat_map (elements_alone c) xs
    → es ≡ elements_alone c y → items ≡ before ++ es → items ≡ flat_map (elements_alone c) (xs ++ x ∷ [])
elements_on c xs x y before es items same are more is =
    is ∙ ap (λ l. l ++ es) are ∙ ap (λ l. flat_map (elements_alone c) xs ++ l) (more ∙ ap (elements_alone c) same ∙ sym (append-nil (elements_alone c x)))
    ∙ sym (flat_map-append (elements_alone c) xs (x ∷ []))
