-- What the non-starters after a key make of it, one at a time.
use Rattle.std.proofs.Common.{◌≡◌, ℕ, suc, ◌+◌, ◌-◌, ◌<◌, ◌≤◌, [], ◌∷◌, ◌++◌, length, take, drop, get_or, true, false, sym, ap, ap₂, ◌∙◌, append-nil}
use Rattle.std.proofs.Common.{arith, length-drop, length-take-le, take-append-drop, ◌≢◌, List, Bool, ◌&&◌, nat_lt, ⊎_elim, subst, refl}
use Rattle.std.proofs.Common.{add-one}
use Rattle.std.proofs.lemmas.Bool.{cond-true, cond-false, and_from, cases_lt}
use Rattle.std.proofs.lemmas.List.{take_more, get_or-drop, drop-drop, get_or_read}
use Rattle.uca_text.specs.Texts.{ClassedCodePoint, Text, NfdText, is_starter, classed, code_points}
use Rattle.uca_elements.specs.Rows.{Keys}
use Rattle.uca_elements.specs.Reading.{is_taken, removed, members, others, non_starters_at_front, after_non_starters}
use Rattle.uca_elements.specs.Places.{is_gone, left_from, left_at}
use Rattle.uca_elements.specs.inside.Extensions.{extended_key, extended_rest, left_between, IsAfter, IsGoing}
use Rattle.uca_elements.specs.declared.places.Place.{Place}
use Rattle.uca_elements.proofs.RemovedLemmas.{members_taken, others_taken, members_skipped, others_skipped, code_points-push}
use Rattle.uca_elements.proofs.MatchLemmas.{marks_more, after_more}
use Rattle.uca_elements.proofs.PlaceLemmas.{length-with_classes, classed_at, left_same, left-append, letters_here, left_gone, left_kept, left_beyond}
use Rattle.std.proofs.lemmas.Bool.Decides.{nat_tests}
use Rattle.std.specs.List.{list_all}
use Rattle.uca_elements.specs.Matches.{IsFound}
use Rattle.uca_elements.specs.declared.matches.Extension.{Extension}

-- ---- What the non-starters after a key make of it, one non-starter at a time

-- ---- One non-starter

pub key_taken : (keys : Keys) (key skipped : Text) (c : ClassedCodePoint) (t : Text) → is_starter c ≡ false → is_taken keys key skipped c ≡ true →
    extended_key keys key skipped (c ∷ t) ≡ extended_key keys (key ++ c ∷ []) skipped t
key_taken keys key skipped c t mark taken =
    ap (λ marks. key ++ members (removed keys key skipped marks) marks) (marks_more c t mark)
    ∙ members_taken keys key skipped c (non_starters_at_front t) taken

pub rest_taken : (keys : Keys) (key skipped : Text) (c : ClassedCodePoint) (t : Text) → is_starter c ≡ false → is_taken keys key skipped c ≡ true →
    extended_rest keys key skipped (c ∷ t) ≡ extended_rest keys (key ++ c ∷ []) skipped t
rest_taken keys key skipped c t mark taken =
    ap (λ marks. (skipped ++ others (removed keys key skipped marks) marks) ++ after_non_starters (c ∷ t)) (marks_more c t mark)
    ∙ ap₂ (λ front rest. front ++ rest) (others_taken keys key skipped c (non_starters_at_front t) taken) (after_more c t mark)

pub key_skipped : (keys : Keys) (key skipped : Text) (c : ClassedCodePoint) (t : Text) → is_starter c ≡ false → is_taken keys key skipped c ≡ false →
    extended_key keys key skipped (c ∷ t) ≡ extended_key keys key (skipped ++ c ∷ []) t
key_skipped keys key skipped c t mark left =
    ap (λ marks. key ++ members (removed keys key skipped marks) marks) (marks_more c t mark)
    ∙ members_skipped keys key skipped c (non_starters_at_front t) left

pub rest_skipped : (keys : Keys) (key skipped : Text) (c : ClassedCodePoint) (t : Text) → is_starter c ≡ false → is_taken keys key skipped c ≡ false →
    extended_rest keys key skipped (c ∷ t) ≡ extended_rest keys key (skipped ++ c ∷ []) t
rest_skipped keys key skipped c t mark left =
    ap (λ marks. (skipped ++ others (removed keys key skipped marks) marks) ++ after_non_starters (c ∷ t)) (marks_more c t mark)
    ∙ ap₂ (λ front rest. front ++ rest) (others_skipped keys key skipped c (non_starters_at_front t) left) (after_more c t mark)

-- ---- The end of the non-starters

pub key_at_end : (keys : Keys) (key skipped t : Text) → non_starters_at_front t ≡ [] → extended_key keys key skipped t ≡ key
key_at_end keys key skipped t none =
    ap (λ marks. key ++ members (removed keys key skipped marks) marks) none ∙ append-nil key

pub rest_at_end : (keys : Keys) (key skipped t : Text) → non_starters_at_front t ≡ [] → after_non_starters t ≡ t →
    extended_rest keys key skipped t ≡ skipped ++ t
rest_at_end keys key skipped t none all =
    ap₂ (λ marks rest. (skipped ++ others (removed keys key skipped marks) marks) ++ rest) none all
    ∙ ap (λ front. front ++ t) (append-nil skipped)

-- ---- The code points that are left between two positions

pub between_none : (s : NfdText) (place : Place) (at : ℕ) → left_between s place at at ≡ []
between_none s place at = ap (λ n. left_from (is_gone place) at (take n (drop at (classed s)))) (let none : at - at ≡ 0 = omega arith in none)

pub between_same : (s : NfdText) (p q : Place) (from to : ℕ) → from ≤ to → to ≤ length (classed s) →
    ((k : ℕ) → from ≤ k → k < to → is_gone p k ≡ is_gone q k) → left_between s p from to ≡ left_between s q from to
between_same s p q from to order within same =
    let rest : Text = drop from (classed s) in
    let count : length (take (to - from) rest) ≡ to - from = length-take-le (to - from) rest (omega (arith, length-drop from (classed s))) in
    left_same (is_gone p) (is_gone q) from (take (to - from) rest) (λ k above below. same k above (omega arith))

-- what is left from one position on is what is left between it and another, and then what is left from there on
pub between_whole : (s : NfdText) (place : Place) (from to : ℕ) → from ≤ to → to ≤ length (classed s) →
    left_at s place from ≡ left_between s place from to ++ left_at s place to
between_whole s place from to order within =
    let rest : Text = drop from (classed s) in
    let count : length (take (to - from) rest) ≡ to - from = length-take-le (to - from) rest (omega (arith, length-drop from (classed s))) in
    let there : from + (to - from) ≡ to = omega arith in
    ap (left_from (is_gone place) from) (sym (take-append-drop (to - from) rest))
    ∙ left-append (is_gone place) from to (take (to - from) rest) (drop (to - from) rest) (omega arith)
    ∙ ap (λ t. left_between s place from to ++ left_from (is_gone place) to t)
    (drop-drop (to - from) from (classed s) ∙ ap (λ n. drop n (classed s)) there)

between_more : (s : NfdText) (place : Place) (from i : ℕ) → length s.classes ≡ length s.points → from ≤ i → i < length s.points →
    left_between s place from (suc i) ≡ left_between s place from i ++ left_from (is_gone place) i (classed_at s i ∷ [])
between_more s place from i same order within =
    let letters_length = length-with_classes s.points s.classes same in
    let rest : Text = drop from (classed s) in
    let inside : i - from < length rest = omega (arith, length-drop from (classed s)) in
    let count : length (take (i - from) rest) ≡ i - from = length-take-le (i - from) rest (omega arith) in
    let there : from + (i - from) ≡ i = omega arith in
    let next : suc i - from ≡ (i - from) + 1 = omega arith in
    let letter : get_or rest (i - from) (classed_at s i) ≡ classed_at s i = get_or-drop from (classed s) (i - from) (classed_at s i)
    ∙ ap (λ n. get_or (classed s) n (classed_at s i)) there ∙ letters_here s i same within in
    ap (λ n. left_from (is_gone place) from (take n rest)) next
    ∙ ap (left_from (is_gone place) from) (take_more rest (i - from) (classed_at s i) inside ∙ ap (λ c. take (i - from) rest ++ c ∷ []) letter)
    ∙ left-append (is_gone place) from i (take (i - from) rest) (classed_at s i ∷ []) (omega arith)

pub between_gone : (s : NfdText) (place : Place) (from i : ℕ) → length s.classes ≡ length s.points → from ≤ i → i < length s.points →
    is_gone place i ≡ true → left_between s place from (suc i) ≡ left_between s place from i
between_gone s place from i same order within gone =
    between_more s place from i same order within
    ∙ ap (λ rest. left_between s place from i ++ rest) (cond-true (is_gone place i) [] (classed_at s i ∷ []) gone)
    ∙ append-nil (left_between s place from i)

pub between_kept : (s : NfdText) (place : Place) (from i : ℕ) → length s.classes ≡ length s.points → from ≤ i → i < length s.points →
    is_gone place i ≡ false → left_between s place from (suc i) ≡ left_between s place from i ++ classed_at s i ∷ []
between_kept s place from i same order within kept =
    between_more s place from i same order within
    ∙ ap (λ rest. left_between s place from i ++ rest) (cond-false (is_gone place i) [] (classed_at s i ∷ []) kept)

-- ---- One more non-starter after a key: it is gone already, it is skipped, or the key takes it

all-push : {A : Type 0} (p : A → Bool) (xs : List A) (x : A) → list_all p (xs ++ x ∷ []) ≡ (list_all p xs && p x)
all-push p [] x = elim (p x) as (λ b. (b && true) ≡ (true && b)) [ true ↦ refl | false ↦ refl ]
all-push p (y ∷ xs) x =
    elim (p y) as (λ b. (b && list_all p (xs ++ x ∷ [])) ≡ ((b && list_all p xs) && p x)) [ true ↦ all-push p xs x | false ↦ refl ]

starter_not : (s : NfdText) (i : ℕ) → (get_or s.classes i 0 ≡ 0 → ⊥) → is_starter (classed_at s i) ≡ false
starter_not s i mark = let apart : get_or s.classes i 0 ≢ 0 = mark in grind (arith, nat_tests)

module _ {N : Type 0} (stands_for : N → List ℕ → Type 0) (keys : Keys) (s : NfdText) (place : Place) (front : Text) (i : ℕ)
    (same : length s.classes ≡ length s.points) (within : i < length s.points) where
  pub going_gone : (so_far : Extension N) → IsAfter s place i so_far.next → is_gone so_far.next i ≡ true →
      IsGoing stands_for keys s place front i so_far → IsGoing stands_for keys s place front (i + 1) so_far
  going_gone so_far after gone going =
      let on : left_at s so_far.next i ≡ left_at s so_far.next (i + 1) = left_gone s so_far.next i same within gone
      ∙ ap (left_at s so_far.next) (sym (add-one i)) in
      record {
        key = going.key;
        skipped = going.skipped;
        node = going.node;
        same_key = going.same_key ∙ ap (extended_key keys going.key going.skipped) on;
        same_rest = going.same_rest ∙ ap (extended_rest keys going.key going.skipped) on;
        skipped_is = going.skipped_is ∙ sym (between_gone s so_far.next place.at i same after.begun within gone)
            ∙ ap (left_between s so_far.next place.at) (sym (add-one i));
        highest = going.highest;
      }

  pub going_skipped : (node : N) (next : Place) (highest new : ℕ) → IsAfter s place i next →
      (get_or s.classes i 0 ≡ 0 → ⊥) → is_gone next i ≡ false →
      ((key : Text) → stands_for node (code_points key) →
      (nat_lt highest (get_or s.classes i 0) && keys (code_points (key ++ classed_at s i ∷ []))) ≡ false) →
      ((class : ℕ) → (nat_lt highest class && nat_lt (get_or s.classes i 0) class) ≡ nat_lt new class) →
      IsGoing stands_for keys s place front i (record { node = node; next = next; highest = highest }) →
      IsGoing stands_for keys s place front (i + 1) (record { node = node; next = next; highest = new })
  going_skipped node next highest new after mark kept left higher going =
      let c : ClassedCodePoint = classed_at s i in
      let key : Text = going.key in
      let skipped : Text = going.skipped in
      let non_starter = starter_not s i mark in
      let on : left_at s next i ≡ c ∷ left_at s next (i + 1) = left_kept s next i same within kept ∙ ap (λ n. c ∷ left_at s next n) (sym (add-one i)) in
      let positive : 0 < c.class = omega arith in
      let not_taken : is_taken keys key skipped c ≡ false = ap (λ b. b && keys (code_points (key ++ c ∷ []))) (going.highest c.class positive)
      ∙ left key going.node in
      record {
        key = key;
        skipped = skipped ++ c ∷ [];
        node = going.node;
        same_key = going.same_key ∙ ap (extended_key keys key skipped) on ∙ key_skipped keys key skipped c (left_at s next (i + 1)) non_starter not_taken;
        same_rest = going.same_rest ∙ ap (extended_rest keys key skipped) on
            ∙ rest_skipped keys key skipped c (left_at s next (i + 1)) non_starter not_taken;
        skipped_is = ap (λ t. t ++ c ∷ []) going.skipped_is ∙ sym (between_kept s next place.at i same after.begun within kept)
            ∙ ap (left_between s next place.at) (sym (add-one i));
        highest = λ class above. all-push (λ d. nat_lt d.class class) skipped c ∙ ap (λ b. b && nat_lt c.class class) (going.highest class above)
            ∙ higher class;
      }

  pub going_taken : (node : N) (next new : Place) (highest : ℕ) (found : N) → IsAfter s place i next →
      (get_or s.classes i 0 ≡ 0 → ⊥) → is_gone next i ≡ false → nat_lt highest (get_or s.classes i 0) ≡ true →
      ((key : List ℕ) → stands_for node key → IsFound stands_for keys (key ++ get_or s.points i 0 ∷ []) found) → is_gone new i ≡ true →
      ((k : ℕ) → k ≢ i → is_gone new k ≡ is_gone next k) →
      IsGoing stands_for keys s place front i (record { node = node; next = next; highest = highest }) →
      IsGoing stands_for keys s place front (i + 1) (record { node = found; next = new; highest = highest })
  going_taken node next new highest found after mark kept free matched gone elsewhere going =
      let c : ClassedCodePoint = classed_at s i in
      let key : Text = going.key in
      let skipped : Text = going.skipped in
      let non_starter = starter_not s i mark in
      let positive : 0 < c.class = omega arith in
      let is_found : IsFound stands_for keys (code_points (key ++ c ∷ [])) found =
      subst (λ k. IsFound stands_for keys k found) (sym (code_points-push key c)) (matched (code_points key) going.node) in
      let taken : is_taken keys key skipped c ≡ true =
      and_from (list_all (λ d. nat_lt d.class c.class) skipped) (keys (code_points (key ++ c ∷ [])))
      (going.highest c.class positive ∙ free) is_found.is_key in
      let beyond : left_at s next (suc i) ≡ left_at s new (i + 1) = left_beyond s next new (suc i) (λ k above. sym (elsewhere k (omega arith)))
      ∙ ap (left_at s new) (sym (add-one i)) in
      let on : left_at s next i ≡ c ∷ left_at s new (i + 1) = left_kept s next i same within kept ∙ ap (λ t. c ∷ t) beyond in
      let inside : i ≤ length (classed s) = omega (arith, length-with_classes s.points s.classes same) in
      record {
        key = key ++ c ∷ [];
        skipped = skipped;
        node = is_found.stands;
        same_key = going.same_key ∙ ap (extended_key keys key skipped) on ∙ key_taken keys key skipped c (left_at s new (i + 1)) non_starter taken;
        same_rest = going.same_rest ∙ ap (extended_rest keys key skipped) on ∙ rest_taken keys key skipped c (left_at s new (i + 1)) non_starter taken;
        skipped_is = going.skipped_is ∙ between_same s next new place.at i after.begun inside (λ k above below. sym (elsewhere k (omega arith)))
            ∙ sym (between_gone s new place.at i same after.begun within gone) ∙ ap (left_between s new place.at) (sym (add-one i));
        highest = going.highest;
      }

-- ---- What the code tests

pub lt_covers : (a b n : ℕ) → b ≤ a → (nat_lt a n && nat_lt b n) ≡ nat_lt a n
lt_covers a b n h =
    ⊎_elim
    (λ below. let first : nat_lt a n ≡ true = grind (arith, nat_tests) in let second : nat_lt b n ≡ true = grind (arith, nat_tests) in
    ap₂ (λ x y. x && y) first second ∙ sym first)
    (λ above. let first : nat_lt a n ≡ false = grind (arith, nat_tests) in ap (λ x. x && nat_lt b n) first ∙ sym first)
    (cases_lt a n)

pub lt_covered : (a b n : ℕ) → a < b → (nat_lt a n && nat_lt b n) ≡ nat_lt b n
lt_covered a b n h =
    ⊎_elim
    (λ below. let first : nat_lt a n ≡ true = grind (arith, nat_tests) in ap (λ x. x && nat_lt b n) first)
    (λ above. let first : nat_lt a n ≡ false = grind (arith, nat_tests) in let second : nat_lt b n ≡ false = grind (arith, nat_tests) in
    ap (λ x. x && nat_lt b n) first ∙ sym second)
    (cases_lt a n)

pub blocked : (a b : ℕ) (key : Bool) → b ≤ a → (nat_lt a b && key) ≡ false
blocked a b key h = let test : nat_lt a b ≡ false = grind (arith, nat_tests) in ap (λ x. x && key) test

pub no_key : (keys : Keys) (key : Text) (c : ClassedCodePoint) (free : Bool) → keys (code_points key ++ c.code ∷ []) ≡ false →
    (free && keys (code_points (key ++ c ∷ []))) ≡ false
no_key keys key c free none =
    let test : keys (code_points (key ++ c ∷ [])) ≡ false = ap keys (code_points-push key c) ∙ none in
    ap (λ b. free && b) test ∙ elim free as (λ b. (b && false) ≡ false) [ true ↦ refl | false ↦ refl ]

pub read_at : (xs ys : List ℕ) (i x : ℕ) → xs ≡ ys → i < length ys → x ≡ get_or xs i x → x ≡ get_or ys i 0
read_at xs ys i x same within there =
    let there_too : x ≡ get_or ys i x = there ∙ ap (λ zs. get_or zs i x) same in
    get_or_read ys i x within there_too 0
