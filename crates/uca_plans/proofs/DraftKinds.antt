-- Kinds of weights and elements of drafts, and an anchor's part.
use Rattle.std.proofs.Common.{◌≡◌, ◌⊎◌, inl, inr, ℕ, ◌<◌, ◌≤◌, Bool, true, false, not, List, [], ◌∷◌, ◌++◌, Option, Some, None, refl, sym, ap}
use Rattle.std.proofs.Common.{◌∙◌, arith, subst, if◌then◌else◌}
use Rattle.std.specs.List.{AllByRecursion}
use Rattle.std.proofs.lemmas.Bool.{cases_eq}
use Rattle.std.proofs.lemmas.Bool.Decides.{nat_tests}
use Rattle.std.proofs.lemmas.Bool.{or_parts}
use Rattle.uca_weights.specs.declared.Level.{Level}
use Rattle.uca_weights.specs.declared.Level.TheVariants.{One, Two, Three}
use Rattle.uca_plans.specs.declared.drafts.DraftWeight.{DraftWeight}
use Rattle.uca_plans.specs.declared.drafts.DraftWeight.TheVariants.{Base, New}
use Rattle.uca_plans.specs.declared.drafts.DraftElement.{DraftElement}
use Rattle.uca_plans.specs.Drafts.{is_zero, draft_weight, is_ignorable_to, AnchorPart, after_front, anchor_part, is_implicit_primary, is_continuation, takes_no_weight}
use Rattle.uca_plans.specs.Drafts.{accepted_part, reset, reweighted}
use Rattle.uca_plans.specs.Plans.{Drafted, placed_after, placed_if_accepted, drafted_at}

-- ---- Kinds

-- no weight
abbrev pub IsZero : DraftWeight → Type 0
IsZero w = w ≡ Base 0

-- a base weight from 8000 up
abbrev pub IsHigh : DraftWeight → Type 0
IsHigh (Base w) = 0x8000 ≤ w
IsHigh (New _) = ⊥

-- a weight at level 1 alone
abbrev pub IsDraftContinuation : DraftElement → Type 0
IsDraftContinuation e = (IsZero e.primary → ⊥) × IsZero e.secondary × IsZero e.tertiary

-- the test of a weight says whether it is none
pub zero_or_not : (w : DraftWeight) → ((is_zero w ≡ true) × IsZero w) ⊎ ((is_zero w ≡ false) × (IsZero w → ⊥))
zero_or_not (Base w) = elim (cases_eq w 0) [
  | inl same ↦ inl (grind (arith, nat_tests), ap Base same)
  | inr other ↦ inr (grind (arith, nat_tests), λ e. other (cc))
]
zero_or_not (New n) = inr (refl, λ e. cc)

-- the test of a weight from 8000 up
pub high_tested : (w : DraftWeight) → is_implicit_primary w ≡ false → IsHigh w → ⊥
high_tested (Base w) tested high = grind (arith, nat_tests)
high_tested (New n) tested high = high

-- a new weight is not none
pub new_not_zero : (n : ℕ) → IsZero (New n) → ⊥
new_not_zero n same = cc

-- a continuation is found by the test
pub continuation_tested : (e : DraftElement) → is_continuation e ≡ false → IsDraftContinuation e → ⊥
continuation_tested e tested is = elim (zero_or_not e.primary) [
  | inl none ↦ is.0 none.1
  | inr some ↦ elim (zero_or_not e.secondary) [
    | inr second ↦ second.1 is.1
    | inl second ↦ elim (zero_or_not e.tertiary) [
      | inr third ↦ third.1 is.2
      | inl third ↦ let test : true ≡ false = rw (some.0, second.0, third.0) at tested in cc
    ]
  ]
]

-- a weight at level 2 or 3 is none, and there is one at the level before
abbrev pub HasDraftGap : DraftElement → Type 0
HasDraftGap e = ((IsZero e.primary → ⊥) × IsZero e.secondary) ⊎ ((IsZero e.secondary → ⊥) × IsZero e.tertiary)

-- no weight up to the level is ignorable
pub ignorable_one : (e : DraftElement) → IsZero e.primary → is_ignorable_to One e ≡ true
ignorable_one e none = elim (zero_or_not e.primary) [ inl is ↦ is.0 | inr not ↦ absurd (not.1 none) ]

pub ignorable_two : (e : DraftElement) → IsZero e.primary → IsZero e.secondary → is_ignorable_to Two e ≡ true
ignorable_two e first second = elim (zero_or_not e.secondary) [ inl is ↦ rw (ignorable_one e first, is.0) refl | inr not ↦ absurd (not.1 second) ]

pub ignorable_three : (e : DraftElement) → IsZero e.primary → IsZero e.secondary → IsZero e.tertiary → is_ignorable_to Three e ≡ true
ignorable_three e first second third = elim (zero_or_not e.secondary) [
  | inl is ↦ elim (zero_or_not e.tertiary) [ inl also ↦ rw (ignorable_one e first, is.0, also.0) refl | inr not ↦ absurd (not.1 third) ]
  | inr not ↦ absurd (not.1 second)
]

-- an element that is not ignorable at a level, and has no gap, has a weight there
pub not_ignorable_weight : (level : Level) (e : DraftElement) → is_ignorable_to level e ≡ false → (HasDraftGap e → ⊥) → IsZero (draft_weight level e) → ⊥
not_ignorable_weight One e tested whole none = let ignorable : is_zero e.primary ≡ true = ignorable_one e none in cc
not_ignorable_weight Two e tested whole none = elim (zero_or_not e.primary) [
  | inl first ↦ let ignorable = ignorable_two e first.1 none in cc
  | inr first ↦ whole (inl (first.1, none))
]
not_ignorable_weight Three e tested whole none = elim (zero_or_not e.secondary) [
  | inr second ↦ whole (inr (second.1, none))
  | inl second ↦ elim (zero_or_not e.primary) [
    | inl first ↦ let ignorable = ignorable_three e first.1 second.1 none in cc
    | inr first ↦ whole (inl (first.1, second.1))
  ]
]

-- a weight is reset where there is one
pub reset_cases : (w : DraftWeight) (weight : ℕ) → (IsZero w × IsZero (reset w weight)) ⊎ ((IsZero w → ⊥) × (reset w weight ≡ Base weight))
reset_cases w weight = elim (zero_or_not w) [
  | inl none ↦ inl (none.1, rw none.0 none.1)
  | inr some ↦ inr (some.1, rw some.0 refl)
]

-- a weight that is reset is not none
reset_not_zero : (w : DraftWeight) (weight : ℕ) → 0 < weight → (IsZero w → ⊥) → IsZero (reset w weight) → ⊥
reset_not_zero w weight some not none = elim (reset_cases w weight) [
  | inl is ↦ not is.0
  | inr is ↦ let same : Base weight ≡ Base 0 = sym is.1 ∙ none in let zero_weight : weight ≡ 0 = cc in absurd (omega arith)
]

-- an element without a gap has none with a new weight in place of one
pub reweighted_whole : (level : Level) (n : ℕ) (e : DraftElement) → (HasDraftGap e → ⊥) → (IsZero (draft_weight level e) → ⊥)
    → HasDraftGap (reweighted level (New n) e) → ⊥
reweighted_whole One n e whole some (inl gap) = reset_not_zero e.secondary 0x20 (omega arith) (λ none. whole (inl (some, none))) gap.1
reweighted_whole One n e whole some (inr gap) = reset_not_zero e.tertiary 2 (omega arith) (λ none. whole (inr ((λ also. whole (inl (some, also))), none))) gap.1
reweighted_whole Two n e whole some (inl gap) = new_not_zero n gap.1
reweighted_whole Two n e whole some (inr gap) = reset_not_zero e.tertiary 2 (omega arith) (λ none. whole (inr (some, none))) gap.1
reweighted_whole Three n e whole some (inl gap) = whole (inl gap)
reweighted_whole Three n e whole some (inr gap) = new_not_zero n gap.1

-- ---- Elements that take no weight

-- an accepted element is no continuation
pub accepted_no_continuation : (level : Level) (e : DraftElement) → takes_no_weight level e ≡ false → IsDraftContinuation e → ⊥
accepted_no_continuation One e tested = continuation_tested e (or_parts (is_continuation e) (is_implicit_primary e.primary) tested).0
accepted_no_continuation Two e tested = continuation_tested e tested
accepted_no_continuation Three e tested = continuation_tested e tested

-- at level 1 an accepted element's primary is below 8000
pub accepted_low : (e : DraftElement) → takes_no_weight One e ≡ false → IsHigh e.primary → ⊥
accepted_low e tested = high_tested e.primary (or_parts (is_continuation e) (is_implicit_primary e.primary) tested).1

-- ---- An anchor's part

-- an anchor's elements: its part, and ignorable ones after it
pub record IsAnchorPart (level : Level) (es : List DraftElement) (part : AnchorPart) : Type 0 where
  pub trailing : List DraftElement
  pub split : es ≡ part.front ++ part.last ∷ trailing
  pub not_ignorable : is_ignorable_to level part.last ≡ false
  pub ignorable : AllByRecursion (λ e. is_ignorable_to level e ≡ true) trailing

-- where there is no part all elements are ignorable
all_are_ignorable : (level : Level) (es : List DraftElement) → anchor_part level es ≡ None → AllByRecursion (λ e. is_ignorable_to level e ≡ true) es
all_are_ignorable level [] none = tt
all_are_ignorable level (e ∷ es) none = go (anchor_part level es) (all_are_ignorable level es) refl none
  where
    -- by whether the element is ignorable
    by_test : (b : Bool) → is_ignorable_to level e ≡ b
        → (let alone : AnchorPart = record { front = []; last = e } in (if b then None else Some alone) ≡ None) → is_ignorable_to level e ≡ true
    by_test true ignorable chosen = ignorable
    by_test false not_ignorable chosen = absurd (cc)

    -- by the part of the rest
    go : (rest : Option AnchorPart) → (anchor_part level es ≡ None → AllByRecursion (λ f. is_ignorable_to level f ≡ true) es) → anchor_part level es ≡ rest
        → after_front level e rest ≡ None → AllByRecursion (λ f. is_ignorable_to level f ≡ true) (e ∷ es)
    go (Some p) more is joined = absurd (cc)
    go None more is joined = (by_test (is_ignorable_to level e) refl joined, more is)

-- the part that is found is so
pub part_is : (level : Level) (es : List DraftElement) (part : AnchorPart) → anchor_part level es ≡ Some part → IsAnchorPart level es part
part_is level [] part found = absurd (cc)
part_is level (e ∷ es) part found = go (anchor_part level es) refl (λ p. part_is level es p) found
  where
    -- by the part of the rest
    go : (rest : Option AnchorPart) → anchor_part level es ≡ rest → ((p : AnchorPart) → anchor_part level es ≡ Some p → IsAnchorPart level es p)
        → after_front level e rest ≡ Some part → IsAnchorPart level (e ∷ es) part
    go (Some p) is more joined =
        let inner = more p is in
        let same : record { front = e ∷ p.front; last = p.last } ≡ part = cc in
        subst (IsAnchorPart level (e ∷ es)) same
        (record { trailing = inner.trailing; split = ap (λ xs. e ∷ xs) inner.split; not_ignorable = inner.not_ignorable; ignorable = inner.ignorable })
    go None is more joined = by_test (is_ignorable_to level e) refl joined
      where
        -- by whether the element is ignorable
        by_test : (b : Bool) → is_ignorable_to level e ≡ b → (if b then None else Some (record { front = []; last = e })) ≡ Some part
            → IsAnchorPart level (e ∷ es) part
        by_test true ignorable chosen = absurd (cc)
        by_test false not_ignorable chosen =
            let alone : AnchorPart = record { front = []; last = e } in
            let same : alone ≡ part = cc in
            subst (IsAnchorPart level (e ∷ es)) same (record { trailing = es; split = refl; not_ignorable = not_ignorable; ignorable = all_are_ignorable level es is })

-- what is drafted at a level: an accepted part with the new weight, and the expansion
pub record IsPlacedDraft (level : Level) (before : Bool) (n : ℕ) (anchor expansion : List DraftElement) (new : Drafted) : Type 0 where
  pub part : AnchorPart
  pub found : IsAnchorPart level anchor part
  pub accepted : takes_no_weight level part.last ≡ false
  pub is : new ≡ placed_after level before (New n) part expansion

-- the part that is accepted
pub accepted_is : (level : Level) (found : Option AnchorPart) (part : AnchorPart) → accepted_part level found ≡ Some part
    → (found ≡ Some part) × (takes_no_weight level part.last ≡ false)
accepted_is level None part accepted = absurd (cc)
accepted_is level (Some p) part accepted = by_test (takes_no_weight level p.last) refl accepted
  where
    -- by whether it takes a weight
    by_test : (b : Bool) → takes_no_weight level p.last ≡ b → (if b then None else Some p) ≡ Some part
        → (Some p ≡ Some part) × (takes_no_weight level part.last ≡ false)
    by_test true refused chosen = absurd (cc)
    by_test false is chosen = let same : p ≡ part = cc in (chosen, subst (λ q. takes_no_weight level q.last ≡ false) same is)

-- what is drafted at a level is so
pub placed_is : (level : Level) (before : Bool) (n : ℕ) (anchor expansion : List DraftElement) (new : Drafted)
    → drafted_at (Some level) before (New n) anchor expansion ≡ Some new
    → IsPlacedDraft level before n anchor expansion new
placed_is level before n anchor expansion new drafted = go (accepted_part level (anchor_part level anchor)) refl drafted
  where
    -- by the accepted part
    go : (part : Option AnchorPart) → accepted_part level (anchor_part level anchor) ≡ part
        → placed_if_accepted level before (New n) part expansion ≡ Some new
        → IsPlacedDraft level before n anchor expansion new
    go None is placed = absurd (cc)
    go (Some part) is placed =
        let accepted = accepted_is level (anchor_part level anchor) part is in
        let same : placed_after level before (New n) part expansion ≡ new = cc in
        record { part = part; found = part_is level anchor part accepted.0; accepted = accepted.1; is = sym same }

-- what is drafted at no level: the elements of the anchor and of the expansion
pub joined_is : (before : Bool) (n : ℕ) (anchor expansion : List DraftElement) (new : Drafted)
    → drafted_at None before (New n) anchor expansion ≡ Some new → new.elements ≡ anchor ++ expansion
joined_is before n anchor expansion new drafted =
    let both : Drafted = record { elements = anchor ++ expansion; insertions = [] } in
    let same : both ≡ new = cc in sym (ap (λ d. d.elements) same)
