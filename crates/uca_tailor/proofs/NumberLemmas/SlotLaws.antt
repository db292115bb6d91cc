-- The slot of a weight in a level's list, and what comes before and after it.
use Rattle.std.proofs.Common.{◌≡◌, inl, inr, ℕ, zero, suc, ◌+◌, ◌<◌, true, false, List, [], ◌∷◌, ◌++◌, length, take, drop, append_assoc, if◌then◌else◌, refl, sym, ap, ◌∙◌, arith, MatchOption, Option, Some, None, IfSome, IfNone}
use Rattle.std.specs.List.{AllWithin, HoldsAt}
use Rattle.std.proofs.Math.Seq.{take-append_seam, drop-append_seam, take-append-add, drop-append-add}
use Rattle.uca_plans.specs.declared.drafts.DraftWeight.{DraftWeight}
use Rattle.uca_plans.specs.declared.drafts.Insertion.{Insertion}
use Rattle.uca_plans.specs.Lists.{inserted, same_weight, before_weight, after_weight}
use Rattle.uca_plans.specs.ListLaws.{IsAmong}
use Rattle.uca_plans.proofs.ListMembers.{same_or_other, same_itself, weight_split}
use Rattle.uca_plans.proofs.InsertionLemmas.{later_among}
use Rattle.uca_tailor.specs.inside.Slots.{IsSlotOf}

-- ---- The first slot

-- the first member that equals the weight is in its slot
first_is : (w : DraftWeight) (ms : List DraftWeight) (i : ℕ) → i < length ms → HoldsAt (λ m. m ≡ w) ms i → AllWithin (λ m. m ≡ w → ⊥) ms 0 i → IsSlotOf w ms i
first_is w [] i within here earlier = absurd (omega arith)
first_is w (m ∷ ms) zero within here earlier =
    let same : m ≡ w = here m in
    record { there = inl same; within = within; before = rw (same_itself w m (sym same)) refl }
first_is w (m ∷ ms) (suc i) within here earlier =
    let rest = first_is w ms i (omega arith) here (λ k d low high. earlier (suc k) d (omega arith) (omega arith)) in
    let other : same_weight w m ≡ false = elim (same_or_other w m) [
      | inl same ↦ absurd (earlier zero m (omega arith) (omega arith) (sym same.1))
      | inr not ↦ not.0
    ] in
    record { there = inr rest.there; within = within; before = rw other (omega (arith, rest.before)) }

-- where no member is the weight, it is not among them
none_is : (w : DraftWeight) (ms : List DraftWeight) → AllWithin (λ m. m ≡ w → ⊥) ms 0 (length ms) → IsAmong ms w → ⊥
none_is w [] none among = among
none_is w (m ∷ ms) none (inl here) = none zero m (omega arith) (omega arith) here
none_is w (m ∷ ms) none (inr there) = none_is w ms (λ k d low high. none (suc k) d (omega arith) (omega arith)) there

-- what a search finds
abbrev pub FindsFirst : DraftWeight → List DraftWeight → Option ℕ → Type 0
FindsFirst w ms found = MatchOption found (AllWithin (λ m. m ≡ w → ⊥) ms 0 (length ms))
    (λ i. (i < length ms) × HoldsAt (λ m. m ≡ w) ms i × AllWithin (λ m. m ≡ w → ⊥) ms 0 i)

-- a slot that it finds is the weight's
pub slot_found : (w : DraftWeight) (ms : List DraftWeight) (found : Option ℕ) → FindsFirst w ms found → IfSome found (IsSlotOf w ms)
slot_found w ms None h = tt
slot_found w ms (Some i) h = first_is w ms i h.0 h.1 h.2

-- where it finds none, there is none
pub no_slot_found : (w : DraftWeight) (ms : List DraftWeight) (found : Option ℕ) → FindsFirst w ms found → IfNone found (IsAmong ms w → ⊥)
no_slot_found w ms None h = none_is w ms h
no_slot_found w ms (Some i) h = tt

-- ---- What comes before it and after it

-- up to it
pub before_slot : (w : DraftWeight) (ms : List DraftWeight) (slot : ℕ) → IsSlotOf w ms slot → take slot ms ≡ before_weight w ms
before_slot w ms slot is =
    rw is.before (ap (take (length (before_weight w ms))) (sym (weight_split w ms is.there)) ∙ take-append_seam (before_weight w ms) (w ∷ after_weight w ms))

-- from it on
from_slot : (w : DraftWeight) (ms : List DraftWeight) (slot : ℕ) → IsSlotOf w ms slot → drop slot ms ≡ w ∷ after_weight w ms
from_slot w ms slot is =
    rw is.before (ap (drop (length (before_weight w ms))) (sym (weight_split w ms is.there)) ∙ drop-append_seam (before_weight w ms) (w ∷ after_weight w ms))

-- what comes after it
pub after_slot : (w : DraftWeight) (ms : List DraftWeight) (slot : ℕ) → IsSlotOf w ms slot → drop (slot + 1) ms ≡ after_weight w ms
after_slot w ms slot is =
    rw is.before (ap (drop (length (before_weight w ms) + 1)) (sym (weight_split w ms is.there))
    ∙ drop-append-add (before_weight w ms) (w ∷ after_weight w ms) 1)

-- up to it, and the weight itself
up_to_slot : (w : DraftWeight) (ms : List DraftWeight) (slot : ℕ) → IsSlotOf w ms slot → take (slot + 1) ms ≡ before_weight w ms ++ w ∷ []
up_to_slot w ms slot is =
    rw is.before (ap (take (length (before_weight w ms) + 1)) (sym (weight_split w ms is.there))
    ∙ take-append-add (before_weight w ms) (w ∷ after_weight w ms) 1)

-- if the weight is not there, all come before it
pub all_before : (w : DraftWeight) (ms : List DraftWeight) → (IsAmong ms w → ⊥) → before_weight w ms ≡ ms
all_before w [] none = refl
all_before w (m ∷ ms) none = elim (same_or_other w m) [
  | inl same ↦ absurd (none (inl (sym same.1)))
  | inr other ↦ rw other.0 (ap (λ xs. m ∷ xs) (all_before w ms (λ among. none (inr among))))
]

-- and none comes after it
pub none_after : (w : DraftWeight) (ms : List DraftWeight) → (IsAmong ms w → ⊥) → after_weight w ms ≡ []
none_after w [] none = refl
none_after w (m ∷ ms) none = elim (same_or_other w m) [
  | inl same ↦ absurd (none (inl (sym same.1)))
  | inr other ↦ rw other.0 (none_after w ms (λ among. none (inr among)))
]

-- ---- A new weight put in

-- it comes before the anchor's weight or after it
inserted_beside : (i : Insertion) (ms : List DraftWeight) → IsAmong ms i.anchor
    → inserted i ms ≡ before_weight i.anchor ms
    ++ (if i.before then i.new ∷ i.anchor ∷ after_weight i.anchor ms else i.anchor ∷ i.new ∷ after_weight i.anchor ms)
inserted_beside i [] among = absurd among
inserted_beside i (m ∷ ms) among = elim (same_or_other i.anchor m) [
  | inl same ↦ rw same.0 (ap (λ x. if i.before then i.new ∷ x ∷ ms else x ∷ i.new ∷ ms) (sym same.1))
  | inr other ↦ rw other.0 (ap (λ xs. m ∷ xs) (inserted_beside i ms (later_among m ms i.anchor other.1 among)))
]

-- it is put in at the slot of the anchor's weight
pub inserted_before : (i : Insertion) (ms : List DraftWeight) (slot : ℕ) → IsSlotOf i.anchor ms slot → i.before ≡ true
    → inserted i ms ≡ take slot ms ++ i.new ∷ drop slot ms
inserted_before i ms slot is side =
    inserted_beside i ms is.there ∙ (rw (side, before_slot i.anchor ms slot is, from_slot i.anchor ms slot is) refl)

-- or at the next one
pub inserted_after : (i : Insertion) (ms : List DraftWeight) (slot : ℕ) → IsSlotOf i.anchor ms slot → i.before ≡ false
    → inserted i ms ≡ take (slot + 1) ms ++ i.new ∷ drop (slot + 1) ms
inserted_after i ms slot is side =
    inserted_beside i ms is.there ∙ (rw (side, up_to_slot i.anchor ms slot is, after_slot i.anchor ms slot is)
    (sym (append_assoc (before_weight i.anchor ms) (i.anchor ∷ []) (i.new ∷ after_weight i.anchor ms))))
