-- Code points with which no longer key begins read one by one.
use Rattle.std.proofs.Common.{◌≡◌, ℕ, zero, suc, ◌<◌, ◌≤◌, List, [], ◌∷◌, ◌++◌, map, length, take, Bool, true, false, cond, not, refl, sym, ap, ap₂, ◌∙◌, arith}
use Rattle.std.proofs.Common.{append-nil}
use Rattle.std.specs.Bool.{OnTrue}
use Rattle.std.specs.List.{flat_map}
use Rattle.std.proofs.lemmas.Bool.{false_from_ne_true}
use Rattle.uca_weights.specs.declared.Element.{Element}
use Rattle.uca_values.specs.Implicit.{implicit}
use Rattle.uca_text.specs.Texts.{ClassedCodePoint, Text, NfdText, nfd_text, code_points, with_classes}
use Rattle.uca_elements.specs.Rows.{Keys, is_key}
use Rattle.uca_elements.specs.Lookups.{BeginsNoKeyIn}
use Rattle.uca_elements.specs.Parts.{Part, Row, Implicit, part_elements}
use Rattle.uca_elements.specs.Reading.{is_taken, removed, members, others, longest_key, non_starters_at_front, after_non_starters, parts}
use Rattle.uca_elements.specs.Collations.{Collation, elements_of}
use Rattle.uca_elements.proofs.RemovedLemmas.{removed_skipped, taken_iff}
use Rattle.uca_elements.proofs.MatchLemmas.{marks-append, no_longer}
use Rattle.uca_elements.proofs.ReadingLemmas.{parts_of_none, parts_of_longest}
use Rattle.uca_plain.specs.Leaves.{IsLeaf, AreLeaves, points_elements, leaf_elements}

module _ (keys : Keys) (x : ClassedCodePoint) (leaf : (y : ℕ) → BeginsNoKeyIn keys (x.code ∷ y ∷ [])) where
  -- no key is longer
  no_key : (y : ℕ) (more : List ℕ) → keys (x.code ∷ y ∷ more) ≡ false
  no_key y more = false_from_ne_true (keys (x.code ∷ y ∷ more)) (λ key. leaf y (more, key))

  longest_is_short : (t : Text) → longest_key keys (x ∷ t) (length (x ∷ t)) ≡ longest_key keys (x ∷ t) 1
  longest_is_short t = no_longer keys (x ∷ t) 1 (length (x ∷ t)) (omega arith) (λ m above below. beyond t m above below)
    where
      beyond : (t : Text) (m : ℕ) → 1 < m → m ≤ length (x ∷ t) → keys (code_points (take m (x ∷ t))) ≡ false
      beyond t zero above below = absurd (omega arith)
      beyond t (suc zero) above below = absurd (omega arith)
      beyond [] (suc (suc m)) above below = absurd (omega arith)
      beyond (y ∷ t) (suc (suc m)) above below = no_key y.code (code_points (take m t))

  -- it takes no non-starters
  takes_none : (skipped marks : Text) →
      (members (removed keys (x ∷ []) skipped marks) marks ≡ []) × (others (removed keys (x ∷ []) skipped marks) marks ≡ marks)
  takes_none skipped [] = (refl, refl)
  takes_none skipped (y ∷ marks) =
      let left : is_taken keys (x ∷ []) skipped y ≡ false =
      false_from_ne_true (is_taken keys (x ∷ []) skipped y) (λ taken. leaf y.code ([], ((taken_iff keys (x ∷ []) skipped y).0 taken).1)) in
      let later = takes_none (skipped ++ y ∷ []) marks in
      let set = removed_skipped keys (x ∷ []) skipped y marks left in (
        ap (λ set. members set (y ∷ marks)) set ∙ later.0,
        ap (λ set. others set (y ∷ marks)) set ∙ ap (λ t. y ∷ t) later.1,
      )

  -- it is a part
  abbrev leaf_part : Bool → Part
  leaf_part true = Row (x.code ∷ [])
  leaf_part false = Implicit x.code

  leaf_parts : (t : Text) (key : Bool) → keys (x.code ∷ []) ≡ key → parts keys (x ∷ t) ≡ leaf_part key ∷ parts keys t
  leaf_parts t true key =
      let none = takes_none [] (non_starters_at_front t) in
      parts_of_longest keys (x ∷ t) 0 (longest_is_short t ∙ ap (λ b. cond b 1 0) key)
      ∙ ap₂ (λ front rest. Row (code_points (x ∷ front)) ∷ parts keys rest) none.0
      (ap (λ s. s ++ after_non_starters t) none.1 ∙ marks-append t)
  leaf_parts t false key = parts_of_none keys x t (longest_is_short t ∙ ap (λ b. cond b 1 0) key)

module _ (c : Collation) where
  -- a text that begins with a leaf
  read_leaf : (x : ℕ) (xs : List ℕ) → IsLeaf c x → points_elements c (x ∷ xs) ≡ leaf_elements c x ++ points_elements c xs
  unfolding points_elements
  read_leaf x xs leaf =
      let letter : ClassedCodePoint = record { code = x; class = c.properties.class x } in
      let key : Bool = is_key c.rows (x ∷ []) in
      let elements : Part → List Element = part_elements (implicit c.ranges c.properties) c.rows in
      let part : Part = leaf_part (is_key c.rows) letter leaf.ends key in
      let text : Text = with_classes xs (map c.properties.class xs) in
      ap (flat_map elements) (leaf_parts (is_key c.rows) letter leaf.ends text key refl)
      ∙ ap (λ es. es ++ points_elements c xs) (sym (append-nil (elements part)))
      ∙ ap (λ es. es ++ points_elements c xs) (sym (ap (flat_map elements) (leaf_parts (is_key c.rows) letter leaf.ends [] key refl)))

  pub read_leaves : (xs : List ℕ) → AreLeaves c xs → points_elements c xs ≡ flat_map (leaf_elements c) xs
  unfolding points_elements
  read_leaves [] leaves = refl
  read_leaves (x ∷ xs) leaves = read_leaf x xs leaves.0 ∙ ap (λ es. leaf_elements c x ++ es) (read_leaves xs leaves.1)

-- the elements of a text in Normalization Form D whose classes are those of the data file
pub text_of_points : (c : Collation) (s : NfdText) → s.classes ≡ map c.properties.class s.points → points_elements c s.points ≡ elements_of c s
unfolding points_elements
text_of_points c s classes = ap (λ l. elements_of c (record { points = s.points; classes = l })) (sym classes)

pub classes_of : (c : Collation) (xs : List ℕ) (s : NfdText) → s ≡ nfd_text c.properties xs → s.classes ≡ map c.properties.class s.points
classes_of c xs s is = ap (λ (t : NfdText). t.classes) is ∙ ap (λ (t : NfdText). map c.properties.class t.points) (sym is)

-- ---- A test of leaves

pub on_not : {P : Type 0} (b : Bool) → (b ≡ false → P) → OnTrue (not b) P
on_not true holds = tt
on_not false holds = holds refl
