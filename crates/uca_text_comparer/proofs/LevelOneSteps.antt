-- How two texts compare at level 1, code point by code point.
use Rattle.std.proofs.Common.{◌≡◌, ◌≢◌, ℕ, zero, suc, List, [], ◌∷◌, ◌++◌, ◌≤◌, take, get_or, inl, inr, map, Bool, true, false, refl, sym, ap, ap₂, subst, ◌∙◌, arith}
use Rattle.std.specs.Prelude.{nat_eq}
use Rattle.std.proofs.lemmas.Bool.{ne_eqb, eqb-true, eq-eqb}
use Rattle.std.specs.Ordering.{nat_cmp, ordering_then}
use Rattle.std.specs.declared.cmp.Ordering.{Ordering}
use Rattle.std.specs.declared.cmp.Ordering.TheVariants.{Less, Equal, Greater}
use Rattle.unicode_normalization.specs.Forms.{nfd}
use Rattle.uca_weights.specs.declared.Element.{Element}
use Rattle.uca_weights.specs.declared.Weighting.{Weighting}
use Rattle.uca_weights.specs.declared.Weighting.TheVariants.{NonIgnorable, Shifted}
use Rattle.uca_elements.specs.Collations.{Collation}
use Rattle.uca_order.specs.Levels.{Comparison, weight_at, weighted, level_list, level_lists_from, lexicographic, decided, compare_from, compared}
use Rattle.uca_order.specs.StreamedWeights.{is_after_variable, weighted_after}
use Rattle.uca_order.proofs.KeyOrder.{cmp_less, cmp_equal, cmp_greater}
use Rattle.uca_order.proofs.WeightLemmas.{streamed}
use Rattle.uca_comparison.specs.declared.walk.Walked.{Walked}
use Rattle.uca_comparison.specs.Walks.{non_zero, order_at, fetched_left_at, fetched_right_at}
use Rattle.uca_comparison.specs.inside.Comparisons.{ComparesLevels}
use Rattle.uca_comparison.proofs.ComparisonLemmas.{compares_at}
use Rattle.uca_comparison.proofs.FrontLemmas.{then_apart}
use Rattle.uca_comparison.proofs.WalkSteps.{not_equal}
use Rattle.uca_plain.specs.Plain.{elements_alone}
use Rattle.uca_plain.proofs.PlainTexts.{plain_texts}
use Rattle.uca_text_comparer.specs.inside.Beginnings.{HaveRests, DifferFirst}
use Rattle.uca_text_comparer.specs.inside.LevelOne.{HasNext, Decides, CompareAsRests}
use Rattle.uca_text_comparer.specs.inside.Pairs.{read_as}
use Rattle.uca_text_comparer.specs.declared.heads.Head.{Head}
use Rattle.uca_text_comparer.specs.Heads.{primary_of, HaveNone, IsFirstWeight, IsHeaded}
use Rattle.uca_text_comparer.specs.inside.Shared.{BeginsPlain, text_elements}
use Rattle.uca_text_comparer.proofs.BeginningSteps.{elements_cut, none_else}
use Rattle.uca_text_comparer.proofs.PrimarySteps.{level_one}

-- ---- Lists of level 1

-- weights at level 1 are the same after any elements
ones_after : (weighting : Weighting) (flag : _) (es : List Element) → map (weight_at 1) (weighted_after weighting flag es) ≡ map (primary_of weighting) es
ones_after weighting flag [] = refl
ones_after weighting flag (e ∷ es) = ap₂ (λ w ws. w ∷ ws) (level_one weighting flag e) (ones_after weighting (is_after_variable flag e) es)

-- the list of level 1
abbrev list_of : Weighting → List Element → List ℕ
list_of weighting es = non_zero (map (primary_of weighting) es)

list_is : (weighting : Weighting) (es : List Element) → level_list 1 (weighted weighting es) ≡ list_of weighting es
list_is weighting es = ap non_zero (ap (map (weight_at 1)) (sym (streamed.whole weighting es)) ∙ ones_after weighting false es)

order_is : (weighting : Weighting) (es fs : List Element) → order_at weighting es fs 1 ≡ lexicographic (list_of weighting es) (list_of weighting fs)
order_is weighting es fs = ap₂ lexicographic (list_is weighting es) (list_is weighting fs)

-- elements without a weight add nothing
list_none : (weighting : Weighting) (zeros es : List Element) → HaveNone weighting zeros → list_of weighting (zeros ++ es) ≡ list_of weighting es
list_none weighting [] es none = refl
list_none weighting (e ∷ zeros) es none = rw none.0 (list_none weighting zeros es none.1)

list_headed : (weighting : Weighting) (w : ℕ) (first es : List Element) → IsHeaded weighting w first → w ≢ 0
    → list_of weighting (first ++ es) ≡ w ∷ list_of weighting es
list_headed weighting w [] es headed some = absurd headed
list_headed weighting w (e ∷ zeros) es headed some =
    rw headed.0 (rw (ne_eqb w 0 some) (ap (λ l. w ∷ l) (list_none weighting zeros es headed.1)))

list_first : (weighting : Weighting) (w : ℕ) (first es : List Element) → IsFirstWeight weighting w first → w ≢ 0
    → (more : List ℕ) × (list_of weighting (first ++ es) ≡ w ∷ more)
list_first weighting w [] es first_is some = absurd first_is
list_first weighting w (e ∷ more) es first_is some = (list_of weighting (more ++ es), rw first_is (rw (ne_eqb w 0 some) refl))

-- lists that begin alike compare as what follows
lexicographic_after : (shared left right : List ℕ) → lexicographic (shared ++ left) (shared ++ right) ≡ lexicographic left right
lexicographic_after [] left right = refl
lexicographic_after (w ∷ shared) left right =
    ap (λ o. ordering_then o (lexicographic (shared ++ left) (shared ++ right))) (cmp_equal w w refl) ∙ lexicographic_after shared left right

list_append : (weighting : Weighting) (es fs : List Element) → list_of weighting (es ++ fs) ≡ list_of weighting es ++ list_of weighting fs
list_append weighting [] fs = refl
list_append weighting (e ∷ es) fs = at (nat_eq (primary_of weighting e) 0) refl (list_append weighting es fs)
  where
    at : (b : Bool) → nat_eq (primary_of weighting e) 0 ≡ b → list_of weighting (es ++ fs) ≡ list_of weighting es ++ list_of weighting fs
        → list_of weighting ((e ∷ es) ++ fs) ≡ list_of weighting (e ∷ es) ++ list_of weighting fs
    at true is later = rw is later
    at false is later = rw is (ap (λ l. primary_of weighting e ∷ l) later)

-- ---- Elements of an entry

-- an element without a primary weight has no weight at level 1
shifted_none : (e : Element) (m : Bool) → e.mark ≡ m → e.primary ≡ 0 → primary_of Shifted e ≡ 0
shifted_none e true marked none = rw marked refl
shifted_none e false marked none = rw marked none

no_weight : (weighting : Weighting) (e : Element) → e.primary ≡ 0 → primary_of weighting e ≡ 0
no_weight NonIgnorable e none = none
no_weight Shifted e none = shifted_none e e.mark refl none

-- so it is of two elements or fewer
none_of_two : (weighting : Weighting) (d : Element) (es : List Element) (n : ℕ) → n ≤ 2 → (get_or es 0 d).primary ≡ 0 → (get_or es 1 d).primary ≡ 0
    → HaveNone weighting (take n es)
none_of_two weighting d [] zero few first second = tt
none_of_two weighting d [] (suc n) few first second = tt
none_of_two weighting d (e ∷ es) zero few first second = tt
none_of_two weighting d (e ∷ []) (suc zero) few first second = (no_weight weighting e first, tt)
none_of_two weighting d (e ∷ []) (suc (suc n)) few first second = (no_weight weighting e first, tt)
none_of_two weighting d (e ∷ f ∷ es) (suc zero) few first second = (no_weight weighting e first, tt)
none_of_two weighting d (e ∷ f ∷ es) (suc (suc zero)) few first second = (no_weight weighting e first, (no_weight weighting f second, tt))
none_of_two weighting d (e ∷ f ∷ es) (suc (suc (suc n))) few first second = absurd (omega (arith, few))

-- what stands for an element that is not there
abbrev pub no_element : Element
no_element = record { primary = 0; secondary = 0; tertiary = 0; mark = false }

-- the first weight of an entry
pub entry_first : (weighting : Weighting) (es : List Element) (n w : ℕ) → n ≢ 0 → w ≡ primary_of weighting (get_or es 0 no_element) → w ≢ 0
    → IsFirstWeight weighting w (take n es)
entry_first weighting [] n w has is some = absurd (some (is ∙ no_weight weighting no_element refl))
entry_first weighting (e ∷ es) zero w has is some = absurd (has refl)
entry_first weighting (e ∷ es) (suc n) w has is some = sym is

-- and the only one, where its second and third element have none
pub entry_headed : (weighting : Weighting) (es : List Element) (n w : ℕ) → n ≤ 3 → n ≢ 0 → (get_or es 1 no_element).primary ≡ 0
    → (get_or es 2 no_element).primary ≡ 0 → w ≡ primary_of weighting (get_or es 0 no_element) → w ≢ 0 → IsHeaded weighting w (take n es)
entry_headed weighting [] n w few has first second is some = absurd (some (is ∙ no_weight weighting no_element refl))
entry_headed weighting (e ∷ es) zero w few has first second is some = absurd (has refl)
entry_headed weighting (e ∷ es) (suc n) w few has first second is some =
    (sym is, none_of_two weighting no_element es n (omega (arith, few)) first second)

-- ---- What is left of two texts

-- after their common beginning
pub rests_compare : (c : Collation) (weighting : Weighting) (xs ys left right : List ℕ) → HaveRests xs ys left right → CompareAsRests c weighting xs ys left right
rests_compare c weighting xs ys left right rests begins begins_too =
    let p = text_elements c rests.shared in
    let es = text_elements c left in
    let fs = text_elements c right in
    let first = ap (text_elements c) rests.left_is ∙ elements_cut c rests.shared left begins in
    let other = ap (text_elements c) rests.right_is ∙ elements_cut c rests.shared right begins_too in
    ap₂ (λ l m. order_at weighting l m 1) first other ∙ order_is weighting (p ++ es) (p ++ fs)
    ∙ ap₂ lexicographic (list_append weighting p es) (list_append weighting p fs)
    ∙ lexicographic_after (list_of weighting p) (list_of weighting es) (list_of weighting fs) ∙ sym (order_is weighting es fs)

-- a head without a weight decides if it is alone
decided_end : (head : Head) → head.weight ≡ 0 → Decides head → head.alone ≡ true
decided_end head none (inl some) = absurd (some none)
decided_end head none (inr alone) = alone

-- a head that decides is that of a plain code point, or of none
next_begins : (c : Collation) (weighting : Weighting) (xs rest : List ℕ) (head : Head) → HasNext c weighting xs rest head → Decides head → BeginsPlain c xs
next_begins c weighting xs rest head next decides = at (nat_eq head.weight 0) refl decides
  where
    at : (b : Bool) → nat_eq head.weight 0 ≡ b → Decides head → BeginsPlain c xs
    at true is (inl some) = absurd (some (eqb-true head.weight 0 is))
    at true is (inr alone) = subst (BeginsPlain c) (sym (next.ends (eqb-true head.weight 0 is) alone)) tt
    at false is either =
        let some : head.weight ≢ 0 = λ e. let t : nat_eq head.weight 0 ≡ true = eq-eqb head.weight 0 e in cc in
        let there = next.goes_on some in
        subst (BeginsPlain c) (sym there.1) (there.2.first some).0

-- the list of a text that has this head next
next_list : (c : Collation) (weighting : Weighting) (xs rest : List ℕ) (head : Head) → HasNext c weighting xs rest head → head.weight ≢ 0
    → BeginsPlain c rest → (more : List ℕ) × (list_of weighting (text_elements c xs) ≡ head.weight ∷ more)
next_list c weighting xs rest head next some begins =
    let there = next.goes_on some in
    let x = there.0 in
    let first = list_first weighting head.weight (elements_alone c x) (text_elements c rest) (there.2.first some).1 some in
    (first.0, ap (λ l. list_of weighting (text_elements c l)) there.1 ∙ ap (list_of weighting) (elements_cut c (x ∷ []) rest begins) ∙ first.1)

next_alone : (c : Collation) (weighting : Weighting) (xs rest : List ℕ) (head : Head) → HasNext c weighting xs rest head → head.weight ≢ 0
    → head.alone ≡ true → BeginsPlain c rest → list_of weighting (text_elements c xs) ≡ head.weight ∷ list_of weighting (text_elements c rest)
next_alone c weighting xs rest head next some alone begins =
    let there = next.goes_on some in
    let x = there.0 in
    ap (λ l. list_of weighting (text_elements c l)) there.1 ∙ ap (list_of weighting) (elements_cut c (x ∷ []) rest begins)
    ∙ list_headed weighting head.weight (elements_alone c x) (text_elements c rest) (there.2.alone alone).1 some

end_list : (c : Collation) (weighting : Weighting) (xs : List ℕ) → xs ≡ [] → list_of weighting (text_elements c xs) ≡ []
end_list c weighting xs ends = ap (λ l. list_of weighting (text_elements c l)) ends ∙ ap (list_of weighting) (plain_texts c [] tt)

-- after code points that have the same weight, and no other one
pub rests_on : (c : Collation) (weighting : Weighting) (xs ys left right left1 right1 : List ℕ) (first second : Head)
    → CompareAsRests c weighting xs ys left right → HasNext c weighting left left1 first → HasNext c weighting right right1 second
    → first.weight ≡ second.weight → first.weight ≢ 0 → first.alone ≡ true → second.alone ≡ true → CompareAsRests c weighting xs ys left1 right1
rests_on c weighting xs ys left right left1 right1 first second so_far next other same some alone alone_too begins begins_too =
    let es = text_elements c left1 in
    let fs = text_elements c right1 in
    let some_too : second.weight ≢ 0 = λ e. some (same ∙ e) in
    so_far (next_begins c weighting left left1 first next (inl some)) (next_begins c weighting right right1 second other (inl some_too))
    ∙ order_is weighting (text_elements c left) (text_elements c right)
    ∙ ap₂ lexicographic (next_alone c weighting left left1 first next some alone begins)
    (next_alone c weighting right right1 second other some_too alone_too begins_too ∙ ap (λ w. w ∷ list_of weighting fs) (sym same))
    ∙ lexicographic_after (first.weight ∷ []) (list_of weighting es) (list_of weighting fs) ∙ sym (order_is weighting es fs)

-- weights that differ decide
lists_differ : (c : Collation) (weighting : Weighting) (left right left1 right1 : List ℕ) (first second : Head)
    → HasNext c weighting left left1 first → HasNext c weighting right right1 second → first.weight ≢ second.weight → Decides first → Decides second
    → BeginsPlain c left1 → BeginsPlain c right1
    → lexicographic (list_of weighting (text_elements c left)) (list_of weighting (text_elements c right)) ≡ nat_cmp first.weight second.weight
lists_differ c weighting left right left1 right1 first second next other apart decides decides_too begins begins_too =
    at (nat_eq first.weight 0) (nat_eq second.weight 0) refl refl
  where
    at : (a b : Bool) → nat_eq first.weight 0 ≡ a → nat_eq second.weight 0 ≡ b
        → lexicographic (list_of weighting (text_elements c left)) (list_of weighting (text_elements c right)) ≡ nat_cmp first.weight second.weight
    at true true is is_too = absurd (apart (eqb-true first.weight 0 is ∙ sym (eqb-true second.weight 0 is_too)))
    at true false is is_too =
        let none = eqb-true first.weight 0 is in
        let some : second.weight ≢ 0 = λ e. let t : nat_eq second.weight 0 ≡ true = eq-eqb second.weight 0 e in cc in
        let list = next_list c weighting right right1 second other some begins_too in
        ap₂ lexicographic (end_list c weighting left (next.ends none (decided_end first none decides))) list.1
        ∙ sym (cmp_less first.weight second.weight (omega (arith, none, some)))
    at false true is is_too =
        let none = eqb-true second.weight 0 is_too in
        let some : first.weight ≢ 0 = λ e. let t : nat_eq first.weight 0 ≡ true = eq-eqb first.weight 0 e in cc in
        let list = next_list c weighting left left1 first next some begins in
        ap₂ lexicographic list.1 (end_list c weighting right (other.ends none (decided_end second none decides_too)))
        ∙ sym (cmp_greater first.weight second.weight (omega (arith, none, some)))
    at false false is is_too =
        let some : first.weight ≢ 0 = λ e. let t : nat_eq first.weight 0 ≡ true = eq-eqb first.weight 0 e in cc in
        let some_too : second.weight ≢ 0 = λ e. let t : nat_eq second.weight 0 ≡ true = eq-eqb second.weight 0 e in cc in
        let list = next_list c weighting left left1 first next some begins in
        let list_too = next_list c weighting right right1 second other some_too begins_too in
        ap₂ lexicographic list.1 list_too.1 ∙ then_apart first.weight second.weight (lexicographic list.0 list_too.0) apart

-- ---- The order

-- level 1 decides where its lists differ
decided_first : (order : Ordering) (later : Comparison) → (order ≡ Equal → ⊥) → decided order 1 later ≡ record { order = order; level = 1 }
decided_first Less later differ = refl
decided_first Equal later differ = absurd (differ refl)
decided_first Greater later differ = refl

-- what so many levels after the first one say
abbrev later_levels : Weighting → ℕ → List Element → List Element → Comparison
later_levels weighting count es fs = compare_from 2 (level_lists_from 2 count (weighted weighting es)) (level_lists_from 2 count (weighted weighting fs))

level_one_decides : (weighting : Weighting) (es fs : List Element) (order : Ordering) → order_at weighting es fs 1 ≡ order → (order ≡ Equal → ⊥)
    → compared weighting es fs ≡ record { order = order; level = 1 }
level_one_decides NonIgnorable es fs order is differ =
    let later = later_levels NonIgnorable 2 es fs in
    ap (λ o. decided o 1 later) is ∙ decided_first order later differ
level_one_decides Shifted es fs order is differ =
    let later = later_levels Shifted 3 es fs in
    ap (λ o. decided o 1 later) is ∙ decided_first order later differ

-- two texts have the order of the first weights that differ
pub differ_at : (c : Collation) (weighting : Weighting) (xs ys left right left1 right1 : List ℕ) (first second : Head) (order : Ordering)
    → CompareAsRests c weighting xs ys left right → HasNext c weighting left left1 first → HasNext c weighting right right1 second
    → first.weight ≢ second.weight → Decides first → Decides second → BeginsPlain c left1 → BeginsPlain c right1
    → order ≡ nat_cmp first.weight second.weight → DifferFirst c weighting xs ys order
differ_at c weighting xs ys left right left1 right1 first second order so_far next other apart decides decides_too begins begins_too is depth =
    let es = text_elements c xs in
    let fs = text_elements c ys in
    let same : order_at weighting es fs 1 ≡ order =
    so_far (next_begins c weighting left left1 first next decides) (next_begins c weighting right right1 second other decides_too)
    ∙ order_is weighting (text_elements c left) (text_elements c right)
    ∙ lists_differ c weighting left right left1 right1 first second next other apart decides decides_too begins begins_too ∙ sym is in
    let differs = not_equal first.weight second.weight order is apart in
    let whole = level_one_decides weighting es fs order same differs in
    let walked : Walked = record {
      order = order;
      level = 1;
      last = 1;
      fetched_left = fetched_left_at weighting es fs 1;
      fetched_right = fetched_right_at weighting es fs 1;
    } in
    let all : ComparesLevels weighting es fs walked = record {
      order_is = sym (ap (λ a. a.order) whole);
      level_is = sym (ap (λ a. a.level) whole);
      left_is = refl;
      right_is = refl;
    } in
    let found = compares_at depth weighting (read_as c xs xs) (read_as c ys ys) xs ys walked all (none_else order depth xs ys differs) (λ e. ap nfd e) in
    (sym found.0, sym found.1)
