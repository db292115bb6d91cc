-- Sorted texts that are listed one by one.
use Rattle.std.proofs.Common.{◌≡◌, ◌↔◌, ◌⊎◌, inl, inr, ⊎_elim, ℕ, ◌+◌, ◌<◌, ◌≤◌, List, [], ◌∷◌, ◌++◌, Bool, true, false, length, take, get_or, map, Contains, refl, sym, ap, subst, subst₂, ◌∙◌, arith, length-append, length-take, get_or-take, Ordering}
use Rattle.std.specs.List.{AllByRecursion}
use Rattle.std.specs.List.Sorted.{IsPermutation, IsSortedBy}
use Rattle.std.specs.Cmp.Lexicographic.{slice_cmp}
use Rattle.std.specs.FinMap.{nat_cmp-IsAntisymmetric, slice_cmp-IsAntisymmetric}
use Rattle.std.specs.Ordering.{is_lt, nat_cmp, ordering_reverse}
use Rattle.std.specs.declared.cmp.Ordering.TheVariants.{Less, Equal, Greater}
use Rattle.std.proofs.lemmas.Cmp.{nat_list_cmp_total}
use Rattle.std.proofs.lemmas.List.{get_or_default, get_or-map, take_all, take-map, length-map}
use Rattle.std.proofs.lemmas.List.Elements.{All-contains_itself, All-map, recursion_from_All}
use Rattle.std.proofs.lemmas.List.Sorted.{IsPermutation-map, IsPermutation-sym, Contains-permutation, length_permutation, ranks_by, sorted_far}
use Rattle.uca_weights.proofs.Lists.{each_contained, each_push, each_weaker, taken_more}
use Rattle.uca_values.specs.declared.faults.FaultKind.{FaultKind}
use Rattle.uca_values.specs.declared.faults.FaultKind.TheVariants as kinds
use Rattle.uca_change_files.specs.Changes.{ChangeContent, Item, OfText, IsText, IsBelow, MayCome, MayFollow}
use Rattle.uca_change_files.specs.Steps.{MayAdd, Refuses}
use Rattle.uca_editions.specs.inside.Everything.{ListsAll, ListsIfItMay, MayListAll}
use Rattle.uca_images.proofs.Contains.{contained_first}

-- ---- Members of lists

-- what is true of each member is true of each member of a list that has no others
each_of_these : {X : Type 0} (P : X → Type 0) (xs ys : List X) → ((x : X) → Contains xs x → Contains ys x) → AllByRecursion P ys → AllByRecursion P xs
each_of_these P xs ys no_others all =
    each_weaker (Contains xs) P (λ x there. each_contained P ys x all (no_others x there)) xs
    (recursion_from_All (Contains xs) xs (All-contains_itself xs))

-- what a list with one more at its end contains
contained_last : {X : Type 0} (xs : List X) (x y : X) → Contains (xs ++ x ∷ []) y ↔ (Contains xs y ⊎ (x ≡ y))
contained_last [] x y =
    let first = contained_first x [] y in
    (λ h. ⊎_elim (λ own. inr own) (λ none. inl none) (first.0 h), λ h. first.1 (⊎_elim (λ none. inr none) (λ own. inl own) h))
contained_last (z ∷ xs) x y =
    let all = contained_first z (xs ++ x ∷ []) y in
    let front = contained_first z xs y in
    let rest = contained_last xs x y in (
      (λ h. ⊎_elim (λ is. inl (front.1 (inl is))) (λ later. ⊎_elim (λ there. inl (front.1 (inr there))) (λ own. inr own) (rest.0 later)) (all.0 h)),
      λ h. ⊎_elim
          (λ there. ⊎_elim (λ is. all.1 (inl is)) (λ later. all.1 (inr (rest.1 (inl later)))) (front.0 there))
          (λ own. all.1 (inr (rest.1 (inr own))))
          h,
    )

-- ---- Items that may be added

-- an item that may be added is not rejected
not_rejected : (old : ChangeContent) (item : Item) (kind : FaultKind) → Refuses (λ it. item ≡ it) old kind → ¬ (MayAdd old item)
not_rejected old item kind (inl line) may = line.1 item refl may.fits
not_rejected old item kind (inr (inl order)) may = order.1.3 (subst (MayFollow old) order.1.1 may.due)
not_rejected old item kind (inr (inr limit)) may = omega (arith, limit.1, may.few)

-- so only memory can be lacking
pub only_memory_lacks : (old : ChangeContent) (item : Item) (kind : FaultKind) → ¬ (kind ≡ kinds.Memory) →
    (kind ≡ kinds.Memory) ⊎ Refuses (λ it. item ≡ it) old kind → Refuses (λ it. item ≡ it) old kind
only_memory_lacks old item kind other cause = ⊎_elim (λ memory. absurd (other memory)) (λ rejects. rejects) cause

pub added_if_it_may : (old : ChangeContent) (item : Item) (kind : FaultKind) → ¬ (kind ≡ kinds.Memory) →
    (kind ≡ kinds.Memory) ⊎ Refuses (λ it. item ≡ it) old kind → ¬ (MayAdd old item)
added_if_it_may old item kind other cause may = not_rejected old item kind (only_memory_lacks old item kind other cause) may

-- ---- Texts in order

abbrev below : List ℕ → List ℕ → Bool
below x y = is_lt (slice_cmp nat_cmp x y)

-- a text that is not below another one is above it or the same
above_or_same : (x y : List ℕ) → below y x ≡ false → IsBelow x y ⊎ (x ≡ y)
above_or_same x y not_below = by_order (slice_cmp nat_cmp y x) refl
  where
    by_order : (order : Ordering) → slice_cmp nat_cmp y x ≡ order → IsBelow x y ⊎ (x ≡ y)
    by_order Less is = let never : true ≡ false = sym (ap is_lt is) ∙ not_below in absurd cc
    by_order Equal is = inr (sym (slice_cmp-IsAntisymmetric nat_cmp-IsAntisymmetric y x is))
    by_order Greater is = inl (nat_list_cmp_total.antisymm x y ∙ ap ordering_reverse is)

-- a text above the last one may come next
may_come_after : (texts : List (List ℕ)) (last text : List ℕ) → IsBelow last text → MayCome IsBelow (texts ++ last ∷ []) text
may_come_after [] last text above = above
may_come_after (x ∷ []) last text above = above
may_come_after (x ∷ y ∷ more) last text above = may_come_after (y ∷ more) last text above

-- the text is not below any of some texts
abbrev IsBelowNone : List (List ℕ) → List ℕ → Type 0
IsBelowNone texts text = AllByRecursion (λ x. below text x ≡ false) texts

-- in a sorted list a text is not below those before it
pub sorted_none_below : {X : Type 0} (text_of : X → List ℕ) (xs : List X) (i : ℕ) (x : X) → IsSortedBy (λ a b. below (text_of a) (text_of b)) xs →
    i < length xs → x ≡ get_or xs i x → IsBelowNone (take i (map text_of xs)) (text_of x)
sorted_none_below text_of xs i x sorted within is =
    subst (λ (texts : List (List ℕ)). IsBelowNone texts (text_of x)) (sym (take-map text_of i xs))
    (recursion_from_All (λ y. below (text_of x) y ≡ false) (map text_of (take i xs))
    (All-map (λ y. below (text_of x) y ≡ false) text_of (take i xs) (λ k d among.
    let earlier : k < i = omega (arith, among, length-take i xs) in
    subst₂ (λ a b. below (text_of a) (text_of b) ≡ false) (sym is)
    (get_or_default xs k x d (omega (arith, earlier, within)) ∙ sym (get_or-take i xs k d earlier))
    (sorted_far (λ a b. below (text_of a) (text_of b)) (ranks_by nat_list_cmp_total text_of) xs sorted k i x (omega (arith, earlier)) within))))

-- ---- One by one

-- The first texts are listed. A text that is not below any of them may come next, or is listed.
pub record ListsFirst (n : ℕ) (texts : List (List ℕ)) (list : ChangeContent) : Type 0 where
  pub all : AllByRecursion (Contains list.texts) (take n texts)
  pub no_ranges : list.ranges ≡ []
  pub few : length list.texts ≤ length (take n texts)
  pub next : (text : List ℕ) → IsBelowNone (take n texts) text → MayCome IsBelow list.texts text ⊎ Contains list.texts text

-- none is listed yet
pub lists_none : (texts : List (List ℕ)) (list : ChangeContent) → MayListAll list texts → ListsFirst 0 texts list
lists_none texts list may = record {
  all = tt;
  no_ranges = may.no_ranges;
  few = omega (arith, ap length may.no_texts);
  next = λ text none. inl (subst (λ (ts : List (List ℕ)). MayCome IsBelow ts text) (sym may.no_texts) tt);
}

module _ (texts : List (List ℕ)) (i : ℕ) (text : List ℕ) (old new : ChangeContent) (taken : take (i + 1) texts ≡ take i texts ++ text ∷ []) (first : ListsFirst i texts old) where
  -- a text that is not below any of those so far and this one
  parted : (t : List ℕ) → IsBelowNone (take (i + 1) texts) t → IsBelowNone (take i texts) t × (below t text ≡ false)
  parted t none = (each_push (λ x. below t x ≡ false) (take i texts) text).0 (subst (λ (ts : List (List ℕ)). IsBelowNone ts t) taken none)

  -- it is listed after the others
  lists_added : new.texts ≡ old.texts ++ text ∷ [] → new.ranges ≡ old.ranges → ListsFirst (i + 1) texts new
  lists_added added ranges =
      let listed : (t : List ℕ) → Contains old.texts t ⊎ (text ≡ t) → Contains new.texts t =
      λ t there. subst (λ (ts : List (List ℕ)). Contains ts t) (sym added) ((contained_last old.texts text t).1 there) in
      record {
        all = subst (AllByRecursion (Contains new.texts)) (sym taken)
            ((each_push (Contains new.texts) (take i texts) text).1 (
              each_weaker (Contains old.texts) (Contains new.texts) (λ t there. listed t (inl there)) (take i texts) first.all,
              listed text (inr refl),
            ));
        no_ranges = ranges ∙ first.no_ranges;
        few = omega (arith, first.few, ap length added, length-append old.texts (text ∷ []), ap length taken, length-append (take i texts) (text ∷ []));
        next = λ t none.
            ⊎_elim
            (λ above. inl (subst (λ (ts : List (List ℕ)). MayCome IsBelow ts t) (sym added) (may_come_after old.texts text t above)))
            (λ same. inr (listed t (inr same)))
            (above_or_same text t (parted t none).1);
      }

  -- it is listed already
  lists_same : new ≡ old → Contains old.texts text → ListsFirst (i + 1) texts new
  lists_same same there =
      subst (ListsFirst (i + 1) texts) (sym same) (record {
        all = subst (AllByRecursion (Contains old.texts)) (sym taken) ((each_push (Contains old.texts) (take i texts) text).1 (first.all, there));
        no_ranges = first.no_ranges;
        few = omega (arith, first.few, ap length taken, length-append (take i texts) (text ∷ []));
        next = λ t none. first.next t (parted t none).0;
      })

-- one more is listed
pub lists_more : (texts : List (List ℕ)) (i : ℕ) (text : List ℕ) (old new : ChangeContent) → i < length texts → text ≡ get_or texts i text →
    IsBelowNone (take i texts) text → AllByRecursion IsText texts → length texts < 999999 → ListsFirst i texts old → ListsIfItMay old text new →
    ListsFirst (i + 1) texts new
lists_more texts i text old new within is none fit few first (inl adds) =
    lists_added texts i text old new (taken_more texts i text within is) first (ap (λ (c : ChangeContent). c.texts) adds.adds)
    (ap (λ (c : ChangeContent). c.ranges) adds.adds)
lists_more texts i text old new within is none fit few first (inr same) =
    lists_same texts i text old new (taken_more texts i text within is) first same.0
    (⊎_elim
    (λ may_come. absurd (not_rejected old (OfText text) same.1.0 same.1.1 (record {
      fits = each_contained IsText texts text fit (i, within, sym is);
      due = (first.no_ranges, may_come);
      few = omega (arith, first.few, ap length first.no_ranges, few, length-take i texts);
    })))
    (λ there. there)
    (first.next text none))

-- the next one of a sorted list is listed
pub lists_next : {X : Type 0} (text_of : X → List ℕ) (xs : List X) (i : ℕ) (d : X) (old new : ChangeContent) →
    IsSortedBy (λ a b. below (text_of a) (text_of b)) xs → i < length xs → AllByRecursion IsText (map text_of xs) →
    length (map text_of xs) < 999999 → ListsFirst i (map text_of xs) old → ListsIfItMay old (text_of (get_or xs i d)) new →
    ListsFirst (i + 1) (map text_of xs) new
lists_next text_of xs i d old new sorted within fit few first lists =
    let x = get_or xs i d in
    let among : i < length (map text_of xs) = omega (arith, within, length-map xs text_of) in
    lists_more (map text_of xs) i (text_of x) old new among (sym (get_or-map text_of xs i d (text_of x) within))
    (sorted_none_below text_of xs i x sorted within (get_or_default xs i d x within)) fit few first lists

-- ---- All

-- all are listed, in any order
pub lists_all : {X : Type 0} (text_of : X → List ℕ) (before sorted : List X) (list : ChangeContent) (i : ℕ) → IsPermutation before sorted →
    length sorted ≤ i → length (map text_of sorted) < 999999 → ListsFirst i (map text_of sorted) list → ListsAll (map text_of before) list
lists_all text_of before sorted list i moved all few first =
    let whole : take i (map text_of sorted) ≡ map text_of sorted = take_all i (map text_of sorted) (omega (arith, all, length-map sorted text_of)) in
    record {
      all =
          each_of_these (Contains list.texts) (map text_of before) (map text_of sorted)
          (λ t there. Contains-permutation (map text_of before) (map text_of sorted) t (IsPermutation-map text_of before sorted moved) there)
          (subst (AllByRecursion (Contains list.texts)) whole first.all);
      no_ranges = first.no_ranges;
      few = omega (arith, first.few, ap length whole, few);
    }

-- and may be listed in any order
pub may_list_sorted : {X : Type 0} (text_of : X → List ℕ) (before sorted : List X) (list : ChangeContent) → IsPermutation before sorted →
    MayListAll list (map text_of before) → MayListAll list (map text_of sorted)
may_list_sorted text_of before sorted list moved may =
    let moves = IsPermutation-map text_of before sorted moved in
    record {
      no_texts = may.no_texts;
      no_ranges = may.no_ranges;
      fit =
          each_of_these IsText (map text_of sorted) (map text_of before)
          (λ t there. Contains-permutation (map text_of sorted) (map text_of before) t
          (IsPermutation-sym (map text_of before) (map text_of sorted) moves) there) may.fit;
      few = omega (arith, may.few, length_permutation (map text_of before) (map text_of sorted) moves);
    }
