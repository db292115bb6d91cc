-- What is known of a text whose first code points affect nothing, one code point later.
use Rattle.std.proofs.Common.{◌≡◌, ℕ, zero, suc, ◌+◌, ◌-◌, ◌<◌, ◌≤◌, ◌⊎◌, true, false, List, [], ◌∷◌, length, take, drop, get_or, Contains, inl, inr, ⊎_elim, true≢false, sym, ◌∙◌, subst, arith}
use Rattle.std.specs.List.{AllByRecursion}
use Rattle.std.proofs.lemmas.List.{length-drop, take_all}
use Rattle.std.proofs.lemmas.List.Elements.{Contains-get_or, Contains-push_cases, recursion_from_All}
use Rattle.uca_weights.proofs.Lists.{each_contained, taken_more}
use Rattle.uca_values.specs.Ranges.{is_within}
use Rattle.uca_table.specs.inside.Keeping.{has_bit}
use Rattle.uca_text.specs.Occurring.{OccursInOrder}
use Rattle.uca_text.proofs.Occurring.{occurs_more}
use Rattle.uca_change_files.specs.Changes.{ChangeContent, IsChangeList, IsText}
use Rattle.uca_images.proofs.Contains.{contained_first}
use Rattle.uca_editions.specs.AffectedTexts.{is_affected_by}
use Rattle.uca_editions.specs.inside.Index.{AreMarked, IsFree, IsMarked, first_of}
use Rattle.uca_editions.proofs.MarkLaws.{outside_unmarked}
use Rattle.uca_editions.proofs.AffectedTexts.{affected_by_text, unaffected}

-- ---- Where a text occurs

-- its first code point is there
first_there : (text points : List ℕ) → 1 ≤ length text → OccursInOrder text points → Contains points (first_of text)
first_there [] points some h = absurd (omega arith)
first_there (x ∷ xs) [] some h = absurd h
first_there (x ∷ xs) (y ∷ ys) some h =
    (contained_first y ys x).1 (⊎_elim (λ here. inl (sym here.0)) (λ later. inr (first_there (x ∷ xs) ys some later)) h)

-- it occurs later, where its first code point is not among the first ones
occurs_from : (n : ℕ) (text points : List ℕ) → 1 ≤ length text → ¬ (Contains (take n points) (first_of text)) → OccursInOrder text points
    → OccursInOrder text (drop n points)
occurs_from zero text points some none h = h
occurs_from (suc n) [] points some none h = absurd (omega arith)
occurs_from (suc n) (x ∷ xs) [] some none h = absurd h
occurs_from (suc n) (x ∷ xs) (y ∷ ys) some none h =
    ⊎_elim
    (λ here. absurd (none ((contained_first y (take n ys) x).1 (inl (sym here.0)))))
    (λ later. occurs_from n (x ∷ xs) ys some (λ there. none ((contained_first y (take n ys) x).1 (inr there))) later)
    h

-- what occurs later occurs
occurs_later : (n : ℕ) (text points : List ℕ) → OccursInOrder text (drop n points) → OccursInOrder text points
occurs_later zero text points h = h
occurs_later (suc n) text [] h = h
occurs_later (suc n) text (y ∷ ys) h = occurs_more text y ys (occurs_later n text ys h)

-- ---- Code points that affect nothing

-- what is true of all that a list contains is true of each member
each_of : {X : Type 0} (P : X → Type 0) (xs : List X) → ((x : X) → Contains xs x → P x) → AllByRecursion P xs
each_of P xs all = recursion_from_All P xs (λ k d within. all (get_or xs k d) (Contains-get_or xs k d within))

module _ (content : ChangeContent) (points : List ℕ) where
  -- none was seen
  pub none_seen : IsFree content points []
  none_seen = record { outside = λ point there. absurd (omega (arith, there.1)); texts = λ text listed there. absurd (omega (arith, there.1)) }

  -- one more affects nothing
  one_more : (at point : ℕ) → at < length points → point ≡ get_or points at point → is_within content.ranges point ≡ false
      → ((text : List ℕ) → Contains content.texts text → first_of text ≡ point → ¬ (OccursInOrder text points))
      → IsFree content points (take at points) → IsFree content points (take (at + 1) points)
  one_more at point within there outside none free =
      let cases : (y : ℕ) → Contains (take (at + 1) points) y → Contains (take at points) y ⊎ (point ≡ y) =
      λ y h. Contains-push_cases (take at points) point y (subst (λ (s : List ℕ). Contains s y) (taken_more points at point within there) h) in
      record {
        outside = λ y h. ⊎_elim (λ before. free.outside y before) (λ same. subst (λ z. is_within content.ranges z ≡ false) same outside) (cases y h);
        texts = λ text listed h. ⊎_elim (λ before. free.texts text listed before) (λ same. none text listed (sym same)) (cases (first_of text) h);
      }

  -- one without a mark
  pub unmarked_free : (words : List ℕ) (at point : ℕ) → AreMarked content words → has_bit words point ≡ false → at < length points
      → point ≡ get_or points at point → IsFree content points (take at points) → IsFree content points (take (at + 1) points)
  unmarked_free words at point marked unmarked within there free =
      one_more at point within there (outside_unmarked words content.ranges point marked.ranges unmarked)
      (λ text listed first occurs.
      let is : IsMarked words (first_of text) = each_contained (λ t. IsMarked words (first_of t)) content.texts text marked.texts listed in
      true≢false (sym is ∙ subst (λ p. has_bit words p ≡ false) (sym first) unmarked)) free

  -- one that was there before
  pub seen_free : (at point : ℕ) → Contains (take at points) point → is_within content.ranges point ≡ false → at < length points
      → point ≡ get_or points at point → IsFree content points (take at points) → IsFree content points (take (at + 1) points)
  seen_free at point seen outside within there free =
      one_more at point within there outside
      (λ text listed first. free.texts text listed (subst (λ p. Contains (take at points) p) (sym first) seen)) free

  -- the text from a code point on, as a slice has it
  abbrev rest : ℕ → List ℕ
  rest at = take (length points - at) (drop at points)

  rest_is : (at : ℕ) → rest at ≡ drop at points
  rest_is at = take_all (length points - at) (drop at points) (omega (arith, length-drop at points))

  -- one that was not there before, where no text that begins with it occurs from there on
  pub new_free : (texts : List (List ℕ)) (at point : ℕ) → texts ≡ content.texts → IsChangeList content → ¬ (Contains (take at points) point)
      → ((text : List ℕ) → Contains texts text → first_of text ≡ point → ¬ (OccursInOrder text (rest at))) → is_within content.ranges point ≡ false
      → at < length points → point ≡ get_or points at point → IsFree content points (take at points) → IsFree content points (take (at + 1) points)
  new_free texts at point same list new none outside within there free =
      one_more at point within there outside
      (λ text listed first occurs.
      let some : IsText text = each_contained IsText content.texts text list.texts listed in
      let fresh : ¬ (Contains (take at points) (first_of text)) = λ seen. new (subst (λ p. Contains (take at points) p) first seen) in
      none text (subst (λ (ts : List (List ℕ)). Contains ts text) (sym same) listed) first
      (subst (λ (s : List ℕ). OccursInOrder text s) (sym (rest_is at)) (occurs_from at text points some.some fresh occurs))) free

  -- a text that occurs from there on affects the text
  pub found_later : (texts : List (List ℕ)) (at : ℕ) → texts ≡ content.texts → (text : List ℕ) → Contains texts text → OccursInOrder text (rest at)
      → is_affected_by content points ≡ true
  found_later texts at same text listed occurs =
      affected_by_text content points text (subst (λ (ts : List (List ℕ)). Contains ts text) same listed)
      (occurs_later at text points (subst (λ (s : List ℕ). OccursInOrder text s) (rest_is at) occurs))

  -- all affect nothing
  pub all_free : (at : ℕ) → IsChangeList content → length points ≤ at → IsFree content points (take at points) → is_affected_by content points ≡ false
  all_free at list over free =
      let all : IsFree content points points = subst (λ (s : List ℕ). IsFree content points s) (take_all at points over) free in
      unaffected content points
      (each_of (λ text. ¬ (OccursInOrder text points)) content.texts (λ text listed occurs.
      all.texts text listed (first_there text points (each_contained IsText content.texts text list.texts listed).some occurs) occurs))
      (each_of (λ point. ¬ (is_within content.ranges point ≡ true)) points (λ point there changed. true≢false (sym changed ∙ all.outside point there)))
