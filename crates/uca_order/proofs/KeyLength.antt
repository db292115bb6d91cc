-- How long a key may be.
use Rattle.std.proofs.Common.{sym, subst, ◌∙◌, Result, Ok, Err, OnOk, ◌≡◌, ℕ, zero, suc, ◌+◌, ◌*◌, ◌<◌, ◌≤◌, ◌^◌, List}
use Rattle.std.proofs.Common.{[], ◌∷◌, ◌++◌, Bool, true, false, cond, not, nat_eq, Option, Some, None, filter, map}
use Rattle.std.proofs.Common.{length, take, drop, refl, ap, arith, length-append, length-drop}
use Rattle.std.specs.Prelude.{unwrap_or}
use Rattle.std.proofs.lemmas.List.{length-map}
use Rattle.uca_weights.specs.declared.Element.{Element}
use Rattle.uca_weights.specs.declared.Depth.TheVariants.{Weights, Identical}
use Rattle.uca_weights.specs.declared.Weighting.{Weighting}
use Rattle.uca_weights.specs.declared.Weighting.TheVariants.{NonIgnorable, Shifted}
use Rattle.uca_values.specs.declared.ImplicitRange.{ImplicitRange}
use Rattle.uca_values.specs.Content.{Properties, Entry, IsEntry}
use Rattle.uca_values.specs.Implicit.{implicit, lead_of, pair_by_lead, unlisted_pair}
use Rattle.uca_text.specs.Texts.{ClassedCodePoint, Text, NfdText, with_classes, classed, is_starter}
use Rattle.uca_text.specs.Limits.{IsAccepted}
use Rattle.std.specs.Iterator.{Yields, YieldsFirst}
use Rattle.std.specs.Iterator.Runs.{Run, WholeRun}
use Rattle.std.proofs.iter.runs.Made.{took}
use Rattle.uca_elements.specs.Rows.{Rows, is_key, rows_of, same_key}
use Rattle.uca_elements.specs.Parts.{part_elements}
use Rattle.uca_elements.specs.Reading.{others, non_starters_at_front, after_non_starters, removed, longest_key, Portion, portion_at}
use Rattle.uca_elements.specs.Reading.{portion, parts_within, collation_elements}
use Rattle.uca_elements.specs.Collations.{Collation, elements_of}
use Rattle.uca_order.specs.Levels.{Weights as WeightsType, weight_at, level_list, level_lists_from, weighted, level_bytes, levels_bytes}
use Rattle.uca_order.specs.Levels.{weighted_following, key_bytes}
use Rattle.uca_order.specs.Depths.{read_text, points_bytes, key_at}
use Rattle.uca_order.specs.Lengths.{HasShortRows}
use Rattle.uca_order.specs.Laws.{KeysAreShort, RowsAreShort}
use Rattle.std.specs.List.{AllByRecursion, flat_map}
use Rattle.uca_elements.proofs.MatchLemmas.{length-others}

-- ---- Of elements

-- a filter keeps at most what there is
pub length-filter : (p : ℕ → Bool) (ws : List ℕ) → length (filter p ws) ≤ length ws
length-filter p [] = omega arith
length-filter p (w ∷ ws) = step (p w) (length-filter p ws)
  where
    step : (b : Bool) → length (filter p ws) ≤ length ws → length (cond b (w ∷ filter p ws) (filter p ws)) ≤ suc (length ws)
    step true h = omega (arith, h)
    step false h = omega (arith, h)

-- two bytes for each weight
pub length-level_bytes : (ws : List ℕ) → length (level_bytes ws) ≡ 2 * length ws
length-level_bytes [] = refl
length-level_bytes (w ∷ ws) = omega (arith, length-level_bytes ws)

-- each element has weights
pub length-weighted : (weighting : Weighting) (earlier es : List Element) → length (weighted_following weighting earlier es) ≡ length es
length-weighted weighting earlier [] = refl
length-weighted weighting earlier (e ∷ es) = ap suc (length-weighted weighting (e ∷ earlier) es)

-- a level has at most two bytes for each element
pub length-level : (n : ℕ) (ws : List WeightsType) → length (level_bytes (level_list n ws)) ≤ 2 * length ws
length-level n ws =
    let a = length-level_bytes (level_list n ws) in
    let b = length-filter (λ w. not (nat_eq w 0)) (map (weight_at n) ws) in
    let c = length-map ws (weight_at n) in
    omega (arith, a, b, c)

-- three levels and two separators
pub length-three : (ws : List WeightsType) → length (levels_bytes (level_lists_from 1 3 ws)) ≤ 6 * length ws + 4
length-three ws =
    let one = level_bytes (level_list 1 ws) in
    let two = level_bytes (level_list 2 ws) in
    let three = level_bytes (level_list 3 ws) in
    omega (
      arith,
      length-level 1 ws,
      length-level 2 ws,
      length-level 3 ws,
      length-append one (0 ∷ 0 ∷ (two ++ (0 ∷ 0 ∷ three))),
      length-append two (0 ∷ 0 ∷ three),
    )

-- four levels and three separators
pub length-four : (ws : List WeightsType) → length (levels_bytes (level_lists_from 1 4 ws)) ≤ 8 * length ws + 6
length-four ws =
    let one = level_bytes (level_list 1 ws) in
    let two = level_bytes (level_list 2 ws) in
    let three = level_bytes (level_list 3 ws) in
    let four = level_bytes (level_list 4 ws) in
    omega (
      arith,
      length-level 1 ws,
      length-level 2 ws,
      length-level 3 ws,
      length-level 4 ws,
      length-append one (0 ∷ 0 ∷ (two ++ (0 ∷ 0 ∷ (three ++ (0 ∷ 0 ∷ four))))),
      length-append two (0 ∷ 0 ∷ (three ++ (0 ∷ 0 ∷ four))),
      length-append three (0 ∷ 0 ∷ four),
    )

-- the key of some elements has at most eight bytes for each, and three separators
pub length-key : (weighting : Weighting) (es : List Element) → length (key_bytes weighting es) ≤ 8 * length es + 6
length-key NonIgnorable es = omega (arith, length-three (weighted NonIgnorable es), length-weighted NonIgnorable [] es)
length-key Shifted es = omega (arith, length-four (weighted Shifted es), length-weighted Shifted [] es)

-- ---- Of texts

-- the non-starters and what follows them are the whole
pub length-non_starters : (t : Text) → length (non_starters_at_front t) + length (after_non_starters t) ≡ length t
length-non_starters [] = refl
length-non_starters (c ∷ t) = step (is_starter c) (length-non_starters t)
  where
    step : (b : Bool) → length (non_starters_at_front t) + length (after_non_starters t) ≡ length t
        → length (cond b [] (c ∷ non_starters_at_front t)) + length (cond b (c ∷ t) (after_non_starters t)) ≡ suc (length t)
    step true h = omega arith
    step false h = omega (arith, h)

-- a portion of a text has at most 32 elements
pub few_in_row : (rows : Rows) (key : List ℕ) (o : Option (List Element)) → HasShortRows rows → rows key ≡ o → length (unwrap_or o []) ≤ 32
few_in_row rows key None short is = omega arith
few_in_row rows key (Some row) short is = short key row is

-- implicit weights are at most 32 elements
pub few_implicit : (ranges : List ImplicitRange) (properties : Properties) (point : ℕ) → length (implicit ranges properties point) ≤ 32
few_implicit ranges properties point = by_lead (lead_of ranges point)
  where
    block : (core other : Bool) (a b c : List Element) → length a ≤ 32 → length b ≤ 32 → length c ≤ 32 → length (cond core a (cond other b c)) ≤ 32
    block true other a b c ha hb hc = ha
    block false true a b c ha hb hc = hb
    block false false a b c ha hb hc = hc

    by_lead : (o : Option ℕ) → length (pair_by_lead ranges o (unlisted_pair properties point) point) ≤ 32
    by_lead (Some lead) = omega arith
    by_lead None = block (properties.is_core point) (properties.is_other point) _ _ _ (omega arith) (omega arith) (omega arith)

-- a part of at most 32 elements, after which at most n code points are left
pub record IsShortPortion (implicit : ℕ → List Element) (rows : Rows) (p : Portion) (n : ℕ) : Type 0 where
  pub few : length (part_elements implicit rows p.part) ≤ 32
  pub rest : length p.rest ≤ n

-- each portion is such a one
pub short_portion : (implicit : ℕ → List Element) (rows : Rows) (c : ClassedCodePoint) (t : Text) (n : ℕ) → ((point : ℕ) → length (implicit point) ≤ 32)
    → HasShortRows rows → IsShortPortion implicit rows (portion_at (is_key rows) c t n) (length t)
short_portion implicit rows c t zero few short = record { few = few c.code; rest = omega arith }
short_portion implicit rows c t (suc n) few short =
    let rest = drop n t in
    let non_starters = non_starters_at_front rest in
    let set = removed (is_key rows) (take (suc n) (c ∷ t)) [] non_starters in
    record {
      few = few_in_row rows _ _ short refl;
      rest = omega (
        arith,
        length-append (others set non_starters) (after_non_starters rest),
        length-others set non_starters,
        length-non_starters rest,
        length-drop n t,
      );
    }

-- so a text has at most 32 elements for each code point
pub length-read_within : (implicit : ℕ → List Element) (rows : Rows) (n : ℕ) (t : Text) → ((point : ℕ) → length (implicit point) ≤ 32)
    → HasShortRows rows → length (flat_map (part_elements implicit rows) (parts_within (is_key rows) n t)) ≤ 32 * length t
length-read_within implicit rows zero t few short = omega arith
length-read_within implicit rows (suc n) [] few short = omega arith
length-read_within implicit rows (suc n) (c ∷ t) few short =
    let first = portion (is_key rows) c t in
    let p : IsShortPortion implicit rows first (length t) =
    short_portion implicit rows c t (longest_key (is_key rows) (c ∷ t) (length (c ∷ t))) few short in
    let elements = part_elements implicit rows first.part in
    let later = flat_map (part_elements implicit rows) (parts_within (is_key rows) n first.rest) in
    omega (arith, p.few, p.rest, length-append elements later, length-read_within implicit rows n first.rest few short)

-- of the texts that a collation reads
pub length-elements : (c : Collation) (t : Text) → HasShortRows c.rows → length (collation_elements c.rows c.ranges c.properties t) ≤ 32 * length t
length-elements c t short = length-read_within (implicit c.ranges c.properties) c.rows (length t) t (few_implicit c.ranges c.properties) short

-- a text has as many code points as have a class
pub length-with_classes : (points classes : List ℕ) → length (with_classes points classes) ≤ length points
length-with_classes [] classes = omega arith
length-with_classes (c ∷ points) [] = omega arith
length-with_classes (c ∷ points) (k ∷ classes) = omega (arith, length-with_classes points classes)

-- three bytes for each code point
pub length-points_bytes : (points : List ℕ) → length (points_bytes points) ≡ 3 * length points
length-points_bytes [] = refl
length-points_bytes (p ∷ points) = omega (arith, length-points_bytes points)

-- the key of a text within the limits
pub keys_short : KeysAreShort
keys_short c Weights weighting text short accepted =
    let t = classed text in
    omega (
      arith,
      length-key weighting (elements_of c text),
      length-elements c t short,
      length-with_classes text.points text.classes,
      accepted.few,
    )
keys_short c Identical weighting text short accepted =
    let t = classed text in
    omega (
      arith,
      length-key weighting (elements_of c text),
      length-elements c t short,
      length-with_classes text.points text.classes,
      length-points_bytes text.points,
      length-append (key_bytes weighting (elements_of c text)) (0 ∷ 0 ∷ points_bytes text.points),
      accepted.few,
    )

-- of an iterator that shows its items a whole run gives them all
pub shown : {X : Type 0} (s : List X) (xs : List X) (t u : List X)
    → Yields (YieldsFirst (λ (rest : List X). rest)) s xs t → YieldsFirst (λ (rest : List X). rest) t None u → xs ≡ s
shown s [] t u ran ends = sym (ran ∙ ends.0)
shown s (x ∷ xs) t u (j, step, ran) ends = ap (λ l. x ∷ l) (shown j xs t u ran ends) ∙ sym step

-- so a whole run has all items
pub whole_is : {X : Type 0} (s : List X) (p : Run (YieldsFirst (λ (rest : List X). rest))) → p.from ≡ s → p.whole ≡ true → p.items ≡ s
whole_is s p from whole =
    let (t, ran, ends) = took p in
    let (u, ended) = ends whole in
    shown p.from p.items t u ran ended ∙ from

-- so a key of a whole run over the elements of a text is theirs
run_is : (key : List ℕ) (weighting : Weighting) (c : Collation) (text : NfdText) (es : List Element)
    → es ≡ elements_of c text → WholeRun (YieldsFirst (λ (rest : List Element). rest)) es (λ p. key ≡ key_bytes weighting p.items)
    → key ≡ key_bytes weighting (elements_of c text)
run_is key weighting c text es are (p, from, whole, is) = is ∙ ap (key_bytes weighting) (whole_is es p from whole ∙ are)

-- and short
pub weights_short : (key : List ℕ) (weighting : Weighting) (c : Collation) (text : NfdText) (es : List Element)
    → es ≡ elements_of c text → WholeRun (YieldsFirst (λ (rest : List Element). rest)) es (λ p. key ≡ key_bytes weighting p.items)
    → HasShortRows c.rows → IsAccepted text → length key < 2 ^ 40
weights_short key weighting c text es are run short accepted =
    subst (λ (l : List ℕ). length l < 2 ^ 40) (sym (run_is key weighting c text es are run)) (keys_short c Weights weighting text short accepted)

-- also with the identical level after it
pub identical_short : {U E : Type 0} (r : Result U E) (key held points : List ℕ) (weighting : Weighting) (c : Collation) (text : NfdText) (es : List Element)
    → es ≡ elements_of c text → WholeRun (YieldsFirst (λ (rest : List Element). rest)) es (λ p. held ≡ key_bytes weighting p.items)
    → points ≡ text.points → OnOk r (key ≡ held ++ (0 ∷ 0 ∷ points_bytes points)) → HasShortRows c.rows → IsAccepted text → OnOk r (length key < 2 ^ 40)
identical_short (Ok v) key held points weighting c text es are run same is short accepted =
    let whole : key ≡ key_at Identical weighting (read_text c text) =
    is ∙ ap (λ l. l ++ (0 ∷ 0 ∷ points_bytes points)) (run_is held weighting c text es are run)
    ∙ ap (λ l. key_bytes weighting (elements_of c text) ++ (0 ∷ 0 ∷ points_bytes l)) same in
    subst (λ (l : List ℕ). length l < 2 ^ 40) (sym whole) (keys_short c Identical weighting text short accepted)
identical_short (Err e) key held points weighting c text es are run same is short accepted = tt

-- ---- Rows

-- the row that a list of rows gives is one of them
pub short_of : (entries : List Entry) (key : List ℕ) (row : List Element) → AllByRecursion IsEntry entries → rows_of entries key ≡ Some row → length row ≤ 32
short_of [] key row all found = cc
short_of (r ∷ entries) key row (first, all) found = at (same_key r.key key) (short_of entries key row all) found
  where
    at : (b : Bool) → (rows_of entries key ≡ Some row → length row ≤ 32) → cond b (Some r.elements) (rows_of entries key) ≡ Some row → length row ≤ 32
    at true later e = let same : r.elements ≡ row = cc in subst (λ (l : List Element). length l ≤ 32) same first.few_elements
    at false later e = later e

-- so the rows of a table are short
pub rows_short : RowsAreShort
rows_short entries rows are same key row found = short_of entries key row are.entries (sym (same key) ∙ found)
