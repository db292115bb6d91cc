-- The texts that changes affect: what the tests of texts and of code points say together.
use Rattle.std.proofs.Common.{◌≡◌, ℕ, ◌<◌, false, true, Bool, List, [], ◌∷◌, ◌||◌, length, get_or, Contains, IsTrue, refl, ap, sym, subst}
use Rattle.std.specs.Bool.{Decides}
use Rattle.std.specs.List.{AllByRecursion, list_any}
use Rattle.std.proofs.lemmas.Bool.{or_from, or_parts, or_right}
use Rattle.std.proofs.lemmas.Bool.Decides.{not_from_Decides}
use Rattle.std.proofs.lemmas.List.Folds.{list_any_at}
use Rattle.uca_weights.proofs.Tests.{by_cases}
use Rattle.uca_values.specs.Ranges.{is_within}
use Rattle.uca_text.specs.Occurring.{OccursInOrder}
use Rattle.uca_change_files.specs.Changes.{ChangeContent}
use Rattle.uca_changes.specs.AffectedTexts.{occurs_in_order}
use Rattle.uca_changes.proofs.AffectedTexts.{occurs_decides}
use Rattle.uca_editions.specs.AffectedTexts.{is_affected_by, AffectedByChangesAreTheOthers}

module _ {X : Type 0} (test : X → Bool) (P : X → Type 0) (decides : (x : X) → Decides (test x) (P x)) where
  -- a test of all members fails exactly where none has the property
  none_has : (xs : List X) → list_any test xs ≡ false → AllByRecursion (λ x. ¬ (P x)) xs
  none_has [] none = tt
  none_has (x ∷ xs) none =
      let parts = or_parts (test x) (list_any test xs) none in (not_from_Decides (test x) (decides x) parts.0, none_has xs parts.1)

  fails_for_all : (xs : List X) → AllByRecursion (λ x. ¬ (P x)) xs → list_any test xs ≡ false
  fails_for_all [] none = refl
  fails_for_all (x ∷ xs) none =
      or_from (test x) (list_any test xs)
      (by_cases (test x) (λ has. absurd (none.0 ((decides x).0 has))) (λ no. no)) (fails_for_all xs none.1)

module _ (content : ChangeContent) (points : List ℕ) where
  abbrev NoText : List ℕ → Type 0
  NoText text = ¬ (OccursInOrder text points)

  abbrev NoPoint : ℕ → Type 0
  NoPoint point = ¬ (IsTrue (is_within content.ranges point))

  -- where no changed text occurs and no code point has changed, nothing is affected
  pub unaffected : AllByRecursion NoText content.texts → AllByRecursion NoPoint points → is_affected_by content points ≡ false
  unaffected texts outside =
      or_from (list_any (λ text. occurs_in_order text points) content.texts) (list_any (is_within content.ranges) points)
      (fails_for_all (λ text. occurs_in_order text points) (λ text. OccursInOrder text points) (λ text. occurs_decides text points) content.texts texts)
      (fails_for_all (is_within content.ranges) (λ point. IsTrue (is_within content.ranges point)) (λ point. (λ h. h, λ h. h)) points outside)

  -- and the other way round
  pub affects_none : is_affected_by content points ≡ false → AllByRecursion NoText content.texts × AllByRecursion NoPoint points
  affects_none none =
      let parts = or_parts (list_any (λ text. occurs_in_order text points) content.texts) (list_any (is_within content.ranges) points) none in (
        none_has (λ text. occurs_in_order text points) (λ text. OccursInOrder text points) (λ text. occurs_decides text points) content.texts parts.0,
        none_has (is_within content.ranges) (λ point. IsTrue (is_within content.ranges point)) (λ point. (λ h. h, λ h. h)) points parts.1,
      )

  -- a changed text that occurs affects the text
  pub affected_by_text : (text : List ℕ) → Contains content.texts text → OccursInOrder text points → is_affected_by content points ≡ true
  affected_by_text text there occurs =
      ap (λ b. b || list_any (is_within content.ranges) points)
      (list_any_at (λ t. occurs_in_order t points) content.texts there.0 text there.1
      (subst (λ (t : List ℕ). occurs_in_order t points ≡ true) (sym there.2) ((occurs_decides text points).1 occurs)))

  -- and so does a code point that has changed
  pub affected_by_point : (at point : ℕ) → at < length points → point ≡ get_or points at point → is_within content.ranges point ≡ true → is_affected_by content points ≡ true
  affected_by_point at point within there changed =
      or_right (list_any (λ text. occurs_in_order text points) content.texts) (list_any (is_within content.ranges) points)
      (list_any_at (is_within content.ranges) points at point within (subst (λ p. is_within content.ranges p ≡ true) there changed))

pub affected_are_the_others : AffectedByChangesAreTheOthers
affected_are_the_others change points =
    let content : ChangeContent = record { texts = change.texts; ranges = change.ranges } in
    (λ none. let parts = affects_none content points none in record { texts = parts.0; outside = parts.1 }, λ is. unaffected content points is.texts is.outside)
