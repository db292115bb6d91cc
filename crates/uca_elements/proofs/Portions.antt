-- The next portion that is read of a text: what it gives, and what is left of the text after it.
use Rattle.std.proofs.Common.{◌≡◌, ℕ, suc, ◌+◌, ◌<◌, ◌≤◌, List, ◌∷◌, ◌++◌, refl, [], length, take, drop, get_or, false, unwrap_or, sym, ap, ap₂}
use Rattle.std.proofs.Common.{subst, ◌∙◌, arith, add-one}
use Rattle.std.specs.List.{flat_map}
use Rattle.std.specs.Borrow.{Bor}
use Rattle.uca_weights.specs.declared.Element.{Element}
use Rattle.uca_text.specs.Texts.{ClassedCodePoint, Text, NfdText}
use Rattle.uca_values.specs.Implicit.{implicit}
use Rattle.uca_values.proofs.ImplicitPairs.{of_pair}
use Rattle.uca_elements.specs.Rows.{Keys, is_key}
use Rattle.uca_elements.specs.Parts.{Implicit, part_elements}
use Rattle.uca_elements.specs.Reading.{longest_key, row_portion, parts, collation_elements}
use Rattle.uca_elements.specs.Collations.{Collation}
use Rattle.uca_elements.specs.Places.{is_gone, left_at, left_of, IsPlace}
use Rattle.uca_elements.specs.Matches.{IsLongestKey, IsExtended, IsPortion, IsGiven}
use Rattle.uca_elements.specs.declared.places.Place.{Place}
use Rattle.uca_elements.specs.declared.matches.Longest.{Longest}
use Rattle.uca_elements.specs.declared.matches.Portion.{Portion}
use Rattle.uca_elements.specs.declared.matches.Match.TheVariants.{Key, Unlisted}
use Rattle.uca_elements.proofs.ReadingLemmas.{portion_parts, parts_of_none, parts_of_longest}
use Rattle.uca_elements.proofs.PlaceLemmas.{classed_at, left_kept}

module _ {N : Type 0} (stands_for : N → List ℕ → Type 0) (keys : Keys) (s : NfdText) (place : Place) (first : ℕ) (after : place.at ≤ first)
    (same_left : left_at s place first ≡ left_of s place) where
  -- a code point that no key begins with
  pub portion_unlisted : (next : Place) (point : ℕ) → length s.classes ≡ length s.points → first < length s.points → is_gone place first ≡ false →
      longest_key keys (left_at s place first) (length (left_at s place first)) ≡ 0 → point ≡ get_or s.points first 0 → IsPlace s next →
      next.at ≡ first + 1 → left_of s next ≡ left_at s place (first + 1) →
      IsPortion stands_for keys s place (record { given = Unlisted point; next = next })
  portion_unlisted next point same within kept none letter here at left =
      let c : ClassedCodePoint = classed_at s first in
      let on : left_at s place first ≡ c ∷ left_at s place (suc first) = left_kept s place first same within kept in
      let none_there : longest_key keys (c ∷ left_at s place (suc first)) (length (c ∷ left_at s place (suc first))) ≡ 0 =
      ap (λ t. longest_key keys t (length t)) (sym on) ∙ none in
      let rest : left_at s place (suc first) ≡ left_of s next = ap (left_at s place) (sym (add-one first)) ∙ sym left in
      record {
        part = Implicit point;
        matched = ap (parts keys) (sym same_left ∙ on)
            ∙ parts_of_none keys c (left_at s place (suc first)) none_there
            ∙ ap₂ (λ p t. Implicit p ∷ parts keys t) (sym letter) rest;
        given = refl;
        is_place = here;
        onward = omega arith;
      }

  -- a key, with what it takes
  pub portion_listed : (key : Longest N) (from : Place) (portion : Portion N) →
      (longest : IsLongestKey stands_for keys s place first (length (left_at s place first)) key) → from.at ≡ key.after →
      left_of s from ≡ left_at s place key.after → IsExtended stands_for keys s (take (suc longest.count) (left_at s place first)) from portion →
      IsPortion stands_for keys s place portion
  portion_listed key from portion longest at left extended =
      let t : Text = left_at s place first in
      let rest : left_of s from ≡ drop (suc longest.count) t = left ∙ longest.left in
      let front : Text = take (suc longest.count) t in
      record {
        part = (row_portion keys front (left_of s from)).part;
        matched = ap (parts keys) (sym same_left)
            ∙ parts_of_longest keys t longest.count longest.longest
            ∙ ap (λ u. portion_parts keys (row_portion keys front u)) (sym rest)
            ∙ ap (λ u. (row_portion keys front (left_of s from)).part ∷ parts keys u) (sym extended.left);
        given = extended.given;
        is_place = extended.is_place;
        onward = omega (arith, extended.at, longest.onward);
      }

module _ {N : Type 0} (stands_for : N → List ℕ → Type 0) (by : Collation) (s : NfdText) (place : Place) (portion : Portion N)
    (is : IsPortion stands_for (is_key by.rows) s place portion) (before : List Element) (none : before ≡ []) where
  -- what a text reads as
  abbrev read_by : Text → List Element
  read_by t = collation_elements by.rows by.ranges by.properties t

  -- what is left after elements when none of them are left
  reads : before ++ read_by (left_of s place)
      ≡ part_elements (implicit by.ranges by.properties) by.rows is.part ++ read_by (left_of s portion.next)
  reads = ap (λ es. es ++ read_by (left_of s place)) none
      ∙ ap (flat_map (part_elements (implicit by.ranges by.properties) by.rows)) is.matched

  -- where a key is given, its row comes next
  pub row_comes : (node : N) (row : Bor (List Element)) → portion.given ≡ Key node →
      ((key : List ℕ) → stands_for node key → row.now ≡ unwrap_or (by.rows key) []) →
      row.now ++ read_by (left_of s portion.next) ≡ before ++ read_by (left_of s place)
  row_comes node row given its_row =
      let it : IsGiven stands_for is.part (Key node) = subst (IsGiven stands_for is.part) given is.given in
      ap (λ es. es ++ read_by (left_of s portion.next))
      (its_row it.0 it.2 ∙ sym (ap (part_elements (implicit by.ranges by.properties) by.rows) it.1)) ∙ sym reads

  -- where a code point is given, its two implicit elements come next
  pub pair_comes : (c : ℕ) (pair : List Element) (d : Element) → portion.given ≡ Unlisted c → pair ≡ implicit by.ranges by.properties c →
      before ++ read_by (left_of s place)
      ≡ get_or pair 0 d ∷ get_or pair 1 d ∷ (before ++ read_by (left_of s portion.next))
  pair_comes c pair d given are =
      let rest : List Element = read_by (left_of s portion.next) in
      let it : is.part ≡ Implicit c = subst (IsGiven stands_for is.part) given is.given in
      reads ∙ ap (λ p. part_elements (implicit by.ranges by.properties) by.rows p ++ rest) it
      ∙ of_pair (λ es. es ++ rest ≡ get_or es 0 d ∷ get_or es 1 d ∷ rest) by.ranges by.properties c (λ lead low _. refl)
      ∙ ap (λ es. get_or es 0 d ∷ get_or es 1 d ∷ rest) (sym are)
      ∙ ap (λ es. get_or pair 0 d ∷ get_or pair 1 d ∷ (es ++ rest)) (sym none)
