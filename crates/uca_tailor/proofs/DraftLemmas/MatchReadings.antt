-- What the matches of a text give over drafts.
use Rattle.std.proofs.Common.{◌≡◌, ℕ, zero, suc, ◌+◌, List, [], ◌∷◌, ◌++◌, get_or, map, Bool, true, false, cond, ◌||◌, Option, Some, None}
use Rattle.std.proofs.Common.{is_some, unwrap_or, refl, sym, ap, ap₂, ◌∙◌, arith, append-nil, append_assoc}
use Rattle.std.specs.List.{AllByRecursion, flat_map}
use Rattle.std.specs.Iterator.{Yields, YieldsFirst}
use Rattle.std.proofs.lemmas.Bool.{false≢true}
use Rattle.std.proofs.lemmas.List.Concat.{flat_map-append}
use Rattle.uca_weights.specs.declared.Element.{Element}
use Rattle.uca_values.specs.declared.ImplicitRange.{ImplicitRange}
use Rattle.uca_values.specs.Content.{Properties}
use Rattle.uca_values.specs.Implicit.{implicit}
use Rattle.uca_values.proofs.ImplicitPairs.{of_pair}
use Rattle.uca_text.specs.Texts.{NfdText, Text, classed}
use Rattle.uca_elements.specs.Rows.{same_key}
use Rattle.uca_elements.specs.Positions.{Positions, is_placed, place_at}
use Rattle.uca_elements.specs.Parts.{Part, Row, Implicit, IsPartOf}
use Rattle.uca_elements.specs.Reading.{parts}
use Rattle.uca_match.specs.TextMatches.{match_of, matches_of}
use Rattle.uca_elements.specs.declared.matches.Match.{Match}
use Rattle.uca_elements.proofs.Parts.{each_part}
use Rattle.uca_plans.specs.declared.drafts.DraftElement.{DraftElement}
use Rattle.uca_plans.specs.Drafts.{DraftRow, as_draft, draft_at, part_drafts}
use Rattle.uca_plans.specs.Keys.{keys_in, is_among, read_over}
use Rattle.uca_tailor.specs.inside.MatchDrafts.{elements_at, match_drafts}
use Rattle.uca_tailor.specs.inside.Ready.{ArePositionsWith}

-- ---- Positions

-- a key has a position exactly where it is among the keys
pub placed_among : (at : ℕ) (keys : List (List ℕ)) (key : List ℕ) → is_some (place_at at keys key) ≡ is_among keys key
placed_among at [] key = refl
placed_among at (k ∷ keys) key = go (same_key k key) (placed_among (at + 1) keys key)
  where
    go : (b : Bool) → is_some (place_at (at + 1) keys key) ≡ is_among keys key →
        is_some (cond b (Some at) (place_at (at + 1) keys key)) ≡ (b || is_among keys key)
    go true later = refl
    go false later = later

-- ---- Reading

-- a position is not before the first one
later_row : (at : ℕ) (keys : List (List ℕ)) (key : List ℕ) (p : ℕ) → place_at at keys key ≡ Some p → (i : ℕ) × (p ≡ at + i)
later_row at [] key p found = cc
later_row at (k ∷ keys) key p found = go (same_key k key) found (later_row (at + 1) keys key p)
  where
    go : (b : Bool) → cond b (Some at) (place_at (at + 1) keys key) ≡ Some p →
        (place_at (at + 1) keys key ≡ Some p → (i : ℕ) × (p ≡ at + 1 + i)) → (i : ℕ) × (p ≡ at + i)
    go true found later = let same : at ≡ p = cc in (0, omega (arith, same))
    go false found later = let l = later found in (suc l.0, omega (arith, l.1))

-- one with a position has the row of the position
row_there : (at : ℕ) (rows : List DraftRow) (more : List (List ℕ)) (key : List ℕ) (i : ℕ) → place_at at (keys_in rows ++ more) key ≡ Some (at + i) →
    elements_at i rows ≡ unwrap_or (draft_at rows key) []
row_there at [] more key zero found = refl
row_there at [] more key (suc i) found = refl
row_there at (row ∷ rows) more key i found = go (same_key row.key key) i found (λ k is. row_there (at + 1) rows more key k is)
  where
    go : (b : Bool) (i : ℕ) → cond b (Some at) (place_at (at + 1) (keys_in rows ++ more) key) ≡ Some (at + i) →
        ((k : ℕ) → place_at (at + 1) (keys_in rows ++ more) key ≡ Some (at + 1 + k) → elements_at k rows ≡ unwrap_or (draft_at rows key) []) →
        elements_at i (row ∷ rows) ≡ unwrap_or (cond b (Some row.elements) (draft_at rows key)) []
    go true zero found later = refl
    go true (suc i) found later = let same : at ≡ at + suc i = cc in absurd (omega (arith, same))
    go false zero found later =
        let past = later_row (at + 1) (keys_in rows ++ more) key (at + 0) found in absurd (omega (arith, past.1))
    go false (suc i) found later = later i (found ∙ ap (λ p. Some p) (let same : at + suc i ≡ at + 1 + i = omega arith in same))

module _ (positions : Positions) (rows : List DraftRow) (more : List (List ℕ)) (are : ArePositionsWith positions rows more) (ranges : List ImplicitRange)
    (properties : Properties) where
  -- a part that is a key, or a code point, gives what its match gives
  match_stands : (t : Text) (p : Part) → IsPartOf (is_placed positions) t p →
      match_drafts ranges properties rows (match_of positions p) ≡ part_drafts ranges properties rows p
  match_stands t (Row key) is = go (positions key) refl is.0
    where
      go : (at : Option ℕ) → positions key ≡ at → is_some (positions key) ≡ true →
          elements_at (unwrap_or (positions key) 0) rows ≡ unwrap_or (draft_at rows key) []
      go None none some = absurd (false≢true (sym (ap is_some none) ∙ some))
      go (Some p) found some =
          ap (λ o. elements_at (unwrap_or o 0) rows) found
          ∙ row_there 0 rows more key p (sym (are key) ∙ found ∙ ap (λ q. Some q) (let same : p ≡ 0 + p = omega arith in same))
  match_stands t (Implicit c) is = refl

  matches_stand : (t : Text) (ps : List Part) → AllByRecursion (IsPartOf (is_placed positions) t) ps →
      flat_map (match_drafts ranges properties rows) (matches_of positions ps) ≡ flat_map (part_drafts ranges properties rows) ps
  matches_stand t [] all = refl
  matches_stand t (p ∷ ps) all = ap₂ (λ es fs. es ++ fs) (match_stands t p all.0) (matches_stand t ps all.1)

  -- what the matches of a text give are its draft elements, read over the keys that have positions
  pub text_stands : (text : NfdText) →
      flat_map (match_drafts ranges properties rows) (matches_of positions (parts (is_placed positions) (classed text)))
      ≡ read_over ranges properties (is_placed positions) rows text
  text_stands text =
      matches_stand (classed text) (parts (is_placed positions) (classed text)) (each_part (is_placed positions) (classed text))

-- ---- One match after the other

-- the elements of one match more come last
pub one_match_more : (gives : Match ℕ → List DraftElement) (before old new : List DraftElement) (yielded : List (Match ℕ)) (m : Match ℕ) →
    old ≡ before ++ flat_map gives yielded → new ≡ old ++ gives m → new ≡ before ++ flat_map gives (yielded ++ m ∷ [])
one_match_more gives before old new yielded m so_far more =
    more ∙ ap (λ es. es ++ gives m) so_far ∙ append_assoc before (flat_map gives yielded) (gives m)
    ∙ ap (λ es. before ++ (flat_map gives yielded ++ es)) (sym (append-nil (gives m)))
    ∙ ap (λ es. before ++ es) (sym (flat_map-append gives yielded (m ∷ [])))

-- of an iterator that shows its items a whole run gives them all
pub all_shown : {X : Type 0} (s : List X) (xs : List X) (t u : List X)
    → Yields (YieldsFirst (λ (rest : List X). rest)) s xs t → YieldsFirst (λ (rest : List X). rest) t None u → xs ≡ s
all_shown s [] t u ran ends = sym (ran ∙ ends.0)
all_shown s (x ∷ xs) t u (j, step, ran) ends = ap (λ l. x ∷ l) (all_shown j xs t u ran ends) ∙ sym step

-- ---- One match

-- the two implicit elements of a code point
pub pair_stands : (ranges : List ImplicitRange) (properties : Properties) (c : ℕ) (pair : List Element) (d : Element) →
    pair ≡ implicit ranges properties c →
    as_draft true (get_or pair 0 d) ∷ as_draft true (get_or pair 1 d) ∷ [] ≡ map (as_draft true) (implicit ranges properties c)
pair_stands ranges properties c pair d are =
    ap (λ es. as_draft true (get_or es 0 d) ∷ as_draft true (get_or es 1 d) ∷ []) are
    ∙ of_pair (λ es. as_draft true (get_or es 0 d) ∷ as_draft true (get_or es 1 d) ∷ [] ≡ map (as_draft true) es) ranges properties c (λ lead low _. refl)

-- ---- One more match
