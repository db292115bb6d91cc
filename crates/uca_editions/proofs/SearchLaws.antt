-- Rising texts, and which of them begin with a code point.
use Rattle.std.proofs.Common.{◌≡◌, ◌≢◌, ℕ, zero, suc, ◌+◌, ◌-◌, ◌<◌, ◌≤◌, ltb, List, [], ◌∷◌, length, take, drop, get_or, Contains, inl, inr, Ordering, Less, Greater, sym, ap, ◌∙◌, subst, arith}
use Rattle.std.specs.Cmp.{nat_cmp_is}
use Rattle.std.specs.Cmp.Lexicographic.{slice_cmp}
use Rattle.std.specs.List.{AllWithin}
use Rattle.std.specs.List.Sorted.{IsPartitionedBy}
use Rattle.std.specs.Ordering.{nat_cmp, ordering_then}
use Rattle.std.proofs.lemmas.Bool.{cases_lt, ltb-true, lt-ltb}
use Rattle.std.proofs.lemmas.List.{get_or-drop, get_or_read, length-drop, take_all}
use Rattle.uca_values.proofs.Rising.{IsPlace}
use Rattle.uca_text.specs.Occurring.{OccursInOrder}
use Rattle.uca_change_files.specs.Changes.{AreInOrder, IsBelow}
use Rattle.uca_editions.specs.inside.Index.{first_of}

-- ---- Texts by their first code points

first_below : (s t : List ℕ) → IsBelow s t → first_of s ≤ first_of t
first_below [] t below = omega arith
first_below (x ∷ xs) [] below = let never : ⊥ = cc in absurd never
first_below (x ∷ xs) (y ∷ ys) below =
    elim (cases_lt y x) [
      | inl less ↦
          let greater : Greater ≡ nat_cmp x y = nat_cmp_is x y Greater less in
          let same : Greater ≡ Less = subst (λ (o : Ordering). ordering_then o (slice_cmp nat_cmp xs ys) ≡ Less) (sym greater) below in
          let never : ⊥ = cc in absurd never
      | inr upto ↦ upto
    ]

-- those of texts in order do not fall
firsts_rise : (texts : List (List ℕ)) → AreInOrder IsBelow texts → (i j : ℕ) (d : List ℕ) → i ≤ j → j < length texts → first_of (get_or texts i d) ≤ first_of (get_or texts j d)
firsts_rise [] order i j d upto within = absurd (omega arith)
firsts_rise (x ∷ []) order zero zero d upto within = omega arith
firsts_rise (x ∷ []) order i (suc j) d upto within = absurd (omega arith)
firsts_rise (x ∷ []) order (suc i) zero d upto within = absurd (omega arith)
firsts_rise (x ∷ y ∷ more) order zero zero d upto within = omega arith
firsts_rise (x ∷ y ∷ more) order zero (suc j) d upto within =
    omega (arith, first_below x y order.0, firsts_rise (y ∷ more) order.1 zero j d (omega arith) (omega arith))
firsts_rise (x ∷ y ∷ more) order (suc i) zero d upto within = absurd (omega arith)
firsts_rise (x ∷ y ∷ more) order (suc i) (suc j) d upto within = firsts_rise (y ∷ more) order.1 i j d (omega arith) (omega arith)

-- so a test whether they are below a code point parts the texts
pub firsts_parted : (texts : List (List ℕ)) → AreInOrder IsBelow texts → (point : ℕ) → IsPartitionedBy (λ text. ltb (first_of text) point) texts
firsts_parted texts order point i j d upto within below =
    let rise = firsts_rise texts order i j d upto within in
    let less = ltb-true _ _ below in
    lt-ltb _ _ (omega (arith, rise, less))

-- ---- The texts from the place of a code point on

module _ (texts : List (List ℕ)) (place point : ℕ) (points : List ℕ) (order : AreInOrder IsBelow texts) (placed : IsPlace first_of point texts place) where
  -- the texts from there on, as a slice has them
  abbrev rest : List (List ℕ)
  rest = take (length texts - place) (drop place texts)

  -- none of the first ones occurs
  abbrev NoneFirst : ℕ → Type 0
  NoneFirst j = AllWithin (λ text. ¬ (OccursInOrder text points)) rest 0 j

  abbrev NoneBegins : Type 0
  NoneBegins = (text : List ℕ) → Contains texts text → first_of text ≡ point → ¬ (OccursInOrder text points)

  rest_is : rest ≡ drop place texts
  rest_is = take_all (length texts - place) (drop place texts) (omega (arith, length-drop place texts))

  rest_length : length rest ≡ length texts - place
  rest_length = ap length rest_is ∙ length-drop place texts

  at_rest : (k : ℕ) (d : List ℕ) → get_or rest k d ≡ get_or texts (place + k) d
  at_rest k d = ap (λ (s : List (List ℕ)). get_or s k d) rest_is ∙ get_or-drop place texts k d

  -- no text that begins with the code point occurs, where none of the first ones does, and no later one begins so
  none_occur : (j : ℕ) → NoneFirst j → ((k : ℕ) (d : List ℕ) → place + j ≤ k → k < length texts → first_of (get_or texts k d) ≢ point) → NoneBegins
  none_occur j seen past text there first occurs =
      let k : ℕ = there.0 in
      let inside : k < length texts = there.1 in
      let begins : first_of (get_or texts k text) ≡ point = ap first_of there.2 ∙ first in
      elim (cases_lt k place) [
        | inl before ↦ let below = placed.0 k text (omega arith) before in omega (arith, below, begins)
        | inr from ↦ elim (cases_lt k (place + j)) [
          | inl within ↦
              let position : place + (k - place) ≡ k = omega arith in
              let here : get_or rest (k - place) text ≡ text = at_rest (k - place) text ∙ ap (λ (i : ℕ). get_or texts i text) position ∙ there.2 in
              seen (k - place) text (omega arith) (omega arith) (subst (λ (t : List ℕ). OccursInOrder t points) (sym here) occurs)
          | inr over ↦ past k text over inside begins
        ]
      ]

  -- that is so where none of all does
  pub none_to_the_end : (j : ℕ) → length rest ≤ j → NoneFirst j → NoneBegins
  none_to_the_end j over seen = none_occur j seen (λ k d past inside. absurd (omega (arith, rest_length)))

  -- and where a text comes that does not begin so
  pub none_before : (j : ℕ) (other : List ℕ) → j < length rest → other ≡ get_or rest j other → first_of other ≢ point → NoneFirst j → NoneBegins
  none_before j other within there differs seen =
      none_occur j seen (λ k d past inside begins.
      let here : place + j < length texts = omega (arith, rest_length) in
      let is : other ≡ get_or texts (place + j) d = get_or_read rest j other within there d ∙ at_rest j d in
      let low = placed.1 (place + j) d (omega arith) here in
      let rise = firsts_rise texts order (place + j) k d past inside in
      differs (omega (arith, ap first_of is, low, rise, begins)))

  -- one more text does not occur
  pub none_more : (j : ℕ) (other : List ℕ) → j < length rest → other ≡ get_or rest j other → ¬ (OccursInOrder other points) → NoneFirst j → NoneFirst (j + 1)
  none_more j other within there never seen k d from upto occurs =
      elim (cases_lt k j) [
        | inl before ↦ seen k d from before occurs
        | inr last ↦
            let position : k ≡ j = omega arith in
            let is : get_or rest k d ≡ other = ap (λ (i : ℕ). get_or rest i d) position ∙ sym (get_or_read rest j other within there d) in
            never (subst (λ (t : List ℕ). OccursInOrder t points) is occurs)
      ]

  -- a text from the place on that occurs is one of all
  pub one_found : (j : ℕ) (other : List ℕ) → j < length rest → other ≡ get_or rest j other → OccursInOrder other points
      → (text : List ℕ) × Contains texts text × OccursInOrder text points
  one_found j other within there occurs = (other, (place + j, omega (arith, rest_length), sym (there ∙ at_rest j other)), occurs)
