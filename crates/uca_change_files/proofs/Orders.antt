-- Lists of changes with one more text or range.
use Rattle.std.proofs.Common.{◌≡◌, ◌↔◌, ltb, Some, ℕ, zero, suc, ◌+◌, ◌-◌, ◌<◌, ◌≤◌, Bool, true, false, List, [], ◌∷◌, ◌++◌, length, get_or, Contains, inl, inr, refl, sym, ap, subst, ◌∙◌, arith, length-append}
use Rattle.std.proofs.Common.{Ordering, Less, Equal, Greater}
use Rattle.std.specs.Prelude.{IsTrue, slice_get}
use Rattle.std.specs.Cmp.Lexicographic.{slice_cmp}
use Rattle.std.specs.List.{AllByRecursion}
use Rattle.std.specs.List.Sorted.{IsPartitionPoint, IsPartitionedBy}
use Rattle.std.specs.Ordering.{is_lt, nat_cmp}
use Rattle.std.proofs.lemmas.Bool.{cases_lt, false≢true}
use Rattle.std.proofs.lemmas.Cmp.{nat_list_cmp_total, tied_itself}
use Rattle.std.proofs.lemmas.List.{get_or_read}
use Rattle.std.proofs.lemmas.Option.{same_Some}
use Rattle.std.proofs.lemmas.Bool.Decides.{nat_tests}
use borrow.Author.Tests.{ltb-true}
use Rattle.uca_weights.proofs.Lists.{each_push, each_weaker}
use Rattle.uca_values.specs.declared.CodePointRange.{CodePointRange}
use Rattle.uca_values.specs.Ranges.{AreRising}
use Rattle.uca_change_files.specs.Changes.{ChangeContent, Item, OfText, OfRange, IsItem, IsText, IsRange, IsBelow, IsBefore, AreInOrder, MayCome, IsChangeList, MayFollow, put_last}

-- ---- Order

-- with a member that comes after the last one
order_more : {X : Type 0} (Before : X → X → Type 0) (xs : List X) (x : X) → AreInOrder Before xs → MayCome Before xs x → AreInOrder Before (xs ++ x ∷ [])
order_more Before [] x h k = tt
order_more Before (y ∷ []) x h k = (k, tt)
order_more Before (y ∷ z ∷ more) x h k = (h.0, order_more Before (z ∷ more) x h.1 k)

-- without the last one
order_less : {X : Type 0} (Before : X → X → Type 0) (xs : List X) (x : X) → AreInOrder Before (xs ++ x ∷ []) → AreInOrder Before xs × MayCome Before xs x
order_less Before [] x h = (tt, tt)
order_less Before (y ∷ []) x h = (tt, h.0)
order_less Before (y ∷ z ∷ more) x h = let rest = order_less Before (z ∷ more) x h.1 in ((h.0, rest.0), rest.1)

-- which is decided by the last one
pub last_decides : {X : Type 0} (Before : X → X → Type 0) (xs : List X) (last x : X) → Some last ≡ slice_get xs (length xs - 1)
    → (Before last x → MayCome Before xs x) × (MayCome Before xs x → Before last x)
last_decides Before [] last x h = absurd (cc)
last_decides Before (y ∷ []) last x h =
    let same : last ≡ y = same_Some last y h in (λ k. subst (λ z. Before z x) same k, λ k. subst (λ z. Before z x) (sym same) k)
last_decides Before (y ∷ z ∷ more) last x h =
    let e : length (y ∷ z ∷ more) - 1 ≡ suc (length (z ∷ more) - 1) = omega arith in
    last_decides Before (z ∷ more) last x (h ∙ ap (slice_get (y ∷ z ∷ more)) e)

-- the test of numbers
pub less_test : (a b : ℕ) → (IsTrue (ltb a b) → a < b) × (a < b → IsTrue (ltb a b))
less_test a b = (λ h. ltb-true a b h, λ h. grind (arith, nat_tests))

-- ranges in order rise
pub rising_from : (ranges : List CodePointRange) → AllByRecursion IsRange ranges → AreInOrder IsBefore ranges → AreRising ranges
rising_from [] all order = tt
rising_from (r ∷ []) all order = (all.0.order, tt, tt)
rising_from (r ∷ s ∷ more) all order =
    let rest = rising_from (s ∷ more) all.1 order.1 in (
      all.0.order,
      (order.0, each_weaker (λ (t : CodePointRange). s.last < t.first) (λ t. r.last < t.first) (λ t later. omega (arith, order.0, all.1.0.order, later)) more rest.1),
      rest,
    )

-- ---- Looking for a text

-- each text is below the next one
next_below : (texts : List (List ℕ)) → AreInOrder IsBelow texts → (i : ℕ) (d : List ℕ) → suc i < length texts → IsBelow (get_or texts i d) (get_or texts (suc i) d)
next_below [] order i d within = absurd (omega arith)
next_below (x ∷ []) order i d within = absurd (omega arith)
next_below (x ∷ y ∷ more) order zero d within = order.0
next_below (x ∷ y ∷ more) order (suc i) d within = next_below (y ∷ more) order.1 i d (omega arith)

-- a text below one of them is below all later ones
below_later : (texts : List (List ℕ)) → AreInOrder IsBelow texts → (i n : ℕ) (d text : List ℕ) → i + n < length texts → IsBelow (get_or texts (i + n) d) text → IsBelow (get_or texts i d) text
below_later texts order i zero d text within below = subst (λ (k : ℕ). IsBelow (get_or texts k d) text) (omega arith) below
below_later texts order i (suc n) d text within below =
    let step = next_below texts order (i + n) d (omega arith) in
    let position : i + suc n ≡ suc (i + n) = omega arith in
    let last = subst (λ (k : ℕ). IsBelow (get_or texts k d) text) position below in
    below_later texts order i n d text (omega arith) (nat_list_cmp_total.trans (get_or texts (i + n) d) (get_or texts (suc (i + n)) d) text step last)

-- the test whether a text is below another
abbrev pub below_test : List ℕ → List ℕ → Bool
below_test text other = is_lt (slice_cmp nat_cmp other text)

is_less : (o : Ordering) → is_lt o ≡ true → o ≡ Less
is_less Less is = refl
is_less Equal is = absurd (false≢true is)
is_less Greater is = absurd (false≢true is)

not_less : (o : Ordering) → is_lt o ≡ false → o ≡ Less → ⊥
not_less o is less = false≢true (sym is ∙ ap is_lt less)

pub told_less : (b : Bool) (o : Ordering) → IsTrue b ↔ (o ≡ Less) → b ≡ is_lt o
told_less true o told = sym (ap is_lt (told.0 refl))
told_less false Less told = told.1 refl
told_less false Equal told = refl
told_less false Greater told = refl

-- so it parts the texts
pub texts_parted : (texts : List (List ℕ)) → AreInOrder IsBelow texts → (text : List ℕ) → IsPartitionedBy (below_test text) texts
texts_parted texts order text i j d upto within below =
    let position : i + (j - i) ≡ j = omega arith in
    ap is_lt (below_later texts order i (j - i) d text (omega arith)
    (subst (λ (k : ℕ). IsBelow (get_or texts k d) text) (sym position) (is_less (slice_cmp nat_cmp (get_or texts j d) text) below)))

-- the position where a text stands, or would stand
abbrev pub IsTextPlace : List ℕ → List (List ℕ) → ℕ → Type 0
IsTextPlace text texts at = IsPartitionPoint (λ other. IsBelow other text) (λ other. ¬ (IsBelow other text)) texts at

pub place_from_test : (text : List ℕ) (texts : List (List ℕ)) (at : ℕ) → IsPartitionPoint (λ other. below_test text other ≡ true) (λ other. below_test text other ≡ false) texts at
    → IsTextPlace text texts at
place_from_test text texts at h = (
  λ k d from upto. is_less (slice_cmp nat_cmp (get_or texts k d) text) (h.0 k d from upto),
  λ k d from upto. not_less (slice_cmp nat_cmp (get_or texts k d) text) (h.1 k d from upto),
)

-- no text is below itself
not_below_itself : (text : List ℕ) → ¬ (IsBelow text text)
not_below_itself text below = not_less Equal refl (sym (tied_itself nat_list_cmp_total text) ∙ below)

-- a text of the list stands at its place
stands_there : (text : List ℕ) (texts : List (List ℕ)) (at : ℕ) → AreInOrder IsBelow texts → IsTextPlace text texts at → (k : ℕ) → k < length texts → get_or texts k text ≡ text → k ≡ at
stands_there text texts at order place k within is =
    elim (cases_lt k at) [
      | inl before ↦ absurd (not_below_itself text (subst (λ (t : List ℕ). IsBelow t text) is (place.0 k text (omega arith) before)))
      | inr from ↦ elim (cases_lt at k) [
        | inl later ↦
            let position : k ≡ suc (k - 1) = omega arith in
            let there : get_or texts (suc (k - 1)) text ≡ text = ap (λ (i : ℕ). get_or texts i text) (sym position) ∙ is in
            absurd (place.1 (k - 1) text (omega arith) (omega arith)
            (subst (λ (t : List ℕ). IsBelow (get_or texts (k - 1) text) t) there (next_below texts order (k - 1) text (omega arith))))
        | inr upto ↦ omega arith
      ]
    ]

-- so it is in the list exactly where it stands there
pub text_is_there : (text : List ℕ) (texts : List (List ℕ)) (at : ℕ) → AreInOrder IsBelow texts → IsTextPlace text texts at → at < length texts
    → (found : List ℕ) → found ≡ get_or texts at found → (found ≡ text) ↔ Contains texts text
text_is_there text texts at order place within found there = (
  λ same. (at, within, subst (λ (t : List ℕ). get_or texts at t ≡ t) same (sym there)),
  λ held.
      let k = stands_there text texts at order place held.0 held.1 held.2 in
      get_or_read texts at found within there text ∙ ap (λ (i : ℕ). get_or texts i text) (sym k) ∙ held.2,
)

-- past the end there is none
pub no_text_there : (text : List ℕ) (texts : List (List ℕ)) (at : ℕ) → AreInOrder IsBelow texts → IsTextPlace text texts at → length texts ≤ at → ¬ (Contains texts text)
no_text_there text texts at order place over held = let k = stands_there text texts at order place held.0 held.1 held.2 in omega (arith, k, held.1)

-- ---- One more

-- a list with one item more
pub list_more : (content : ChangeContent) (item : Item) → IsChangeList content → IsItem item → MayFollow content item
    → length content.texts + length content.ranges < 999999 → IsChangeList (put_last item content)
list_more content (OfText text) h fits due few = record {
  texts = (each_push IsText content.texts text).1 (h.texts, fits);
  ranges = h.ranges;
  texts_rise = order_more IsBelow content.texts text h.texts_rise due.1;
  ranges_rise = h.ranges_rise;
  few = omega (arith, length-append content.texts (text ∷ []));
}
list_more content (OfRange r) h fits due few = record {
  texts = h.texts;
  ranges = (each_push IsRange content.ranges r).1 (h.ranges, fits);
  texts_rise = h.texts_rise;
  ranges_rise = order_more IsBefore content.ranges r h.ranges_rise due;
  few = omega (arith, length-append content.ranges (r ∷ []));
}

-- ---- One less

-- what is true of a list without its last item, and of this item
pub record IsLess (less : ChangeContent) (item : Item) : Type 0 where
  pub list : IsChangeList less
  pub fits : IsItem item
  pub due : MayFollow less item
  pub few : length less.texts + length less.ranges < 999999

-- without its last text
pub text_less : (less : ChangeContent) (text : List ℕ) → less.ranges ≡ [] → IsChangeList (put_last (OfText text) less) → IsLess less (OfText text)
text_less less text none h =
    let each = (each_push IsText less.texts text).0 h.texts in
    let order = order_less IsBelow less.texts text h.texts_rise in
    record {
      list = record {
        texts = each.0;
        ranges = h.ranges;
        texts_rise = order.0;
        ranges_rise = h.ranges_rise;
        few = omega (arith, h.few, length-append less.texts (text ∷ []));
      };
      fits = each.1;
      due = (none, order.1);
      few = omega (arith, h.few, length-append less.texts (text ∷ []));
    }

-- without its last range
pub range_less : (less : ChangeContent) (r : CodePointRange) → IsChangeList (put_last (OfRange r) less) → IsLess less (OfRange r)
range_less less r h =
    let each = (each_push IsRange less.ranges r).0 h.ranges in
    let order = order_less IsBefore less.ranges r h.ranges_rise in
    record {
      list = record {
        texts = h.texts;
        ranges = each.0;
        texts_rise = h.texts_rise;
        ranges_rise = order.0;
        few = omega (arith, h.few, length-append less.ranges (r ∷ []));
      };
      fits = each.1;
      due = order.1;
      few = omega (arith, h.few, length-append less.ranges (r ∷ []));
    }
