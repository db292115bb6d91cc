-- The beginning of a key, and how the rest of its text is judged.
use Rattle.std.proofs.Common.{◌≡◌, ℕ, ◌+◌, ◌<◌, ◌≤◌, length, take, drop, get_or, ◌*◌, arith, Bool, true, false, not, nat_eq, cond, List, [], ◌∷◌, ◌++◌, ◌⊎◌, inl, inr, map, filter, Result, Ok, Err}
use Rattle.std.proofs.Common.{refl, sym, ap, subst, ◌∙◌, append-nil, append_assoc, length-append}
use Rattle.std.specs.Prelude.{IfOk}
use Rattle.std.specs.Bool.{OnTrue}
use Rattle.std.specs.List.{flat_map}
use Rattle.std.specs.Str.{chars, IsUtf8}
use Rattle.std.proofs.lemmas.List.{length-map, map-append, map-id, take_more, take-append-le, take-append-drop}
use Rattle.std.proofs.lemmas.List.Elements.{filter-append}
use Rattle.std.proofs.lemmas.Str.{chars-append}
use Rattle.std.proofs.lemmas.Grind.{flat_map-append}
use mathlib.Core.List.{reverse_aux}
use Rattle.unicode_normalization.specs.Forms.{nfd, Nfd, decomposed}
use Rattle.unicode_normalization.specs.Decompose.{decompose}
use Rattle.unicode_normalization.proofs.FormsLemmas.{normalize-Nfd}
use Rattle.unicode_normalization.proofs.LengthLemmas.{length-normalize-chars}
use Rattle.unicode_normalization.proofs.OrderLemmas.{length-canonical_order}
use Rattle.uca_weights.specs.declared.Depth.{Depth}
use Rattle.uca_weights.specs.declared.Depth.TheVariants.{Weights, Identical}
use Rattle.uca_weights.specs.declared.Element.{Element}
use Rattle.uca_weights.specs.declared.Weighting.{Weighting}
use Rattle.uca_weights.specs.declared.Weighting.TheVariants.{NonIgnorable, Shifted}
use Rattle.uca_text.specs.Texts.{nfd_text}
use Rattle.uca_text.specs.Limits.{HasNoLongRun, IsAccepted}
use Rattle.uca_text.proofs.Runs.{few_have_no_long_run}
use Rattle.uca_text.proofs.NfdPieces.{pieces_have_no_long_run}
use Rattle.uca_elements.specs.Collations.{Collation, elements_of}
use Rattle.uca_plain.specs.declared.plain.KnownPoint.{KnownPoint}
use Rattle.uca_key_writer.specs.declared.pieces.Piece.{Piece}
use Rattle.uca_order.specs.Levels.{weight_at, level_list, level_lists_from, level_bytes, levels_bytes, weight_bytes, weights_of, weighted, weighted_following, follows_variable, key_bytes}
use Rattle.uca_order.specs.Depths.{ReadText, read_text, key_at, points_bytes}
use Rattle.uca_key_writer.specs.Buffers.{KeyState}
use Rattle.uca_key_writer.specs.inside.AsItIs.{key_as_it_is}
use Rattle.uca_key_writer.specs.inside.LevelBuffers.{LevelState, HoldsLevels, bytes_of_level}
use Rattle.uca_key_writer.specs.inside.Pieces.{piece_points, ReadsTo, HasRead}
use Rattle.uca_plain.specs.PointCache.{BeginsWithStarter, HasTrueDecomposition, counted_on}
use Rattle.uca_key_writer.specs.inside.Beginnings.{HasBegun, IsJudged, IsJudgedTo, HasPassed}
use Rattle.uca_key_writer.proofs.PieceSteps.{Begins, elements_joined, key_if_read, on_any}

-- ---- Level 1 comes first

-- the weights of more elements come last
weighted-append : (weighting : Weighting) (earlier es fs : List Element)
    → weighted_following weighting earlier (es ++ fs) ≡ weighted_following weighting earlier es ++ weighted_following weighting (reverse_aux es earlier) fs
weighted-append weighting earlier [] fs = refl
weighted-append weighting earlier (e ∷ es) fs =
    ap (λ l. weights_of weighting (follows_variable earlier) e ∷ l) (weighted-append weighting (e ∷ earlier) es fs)

-- so the bytes of a level of some elements begin those of more
level_begins : (level : ℕ) (weighting : Weighting) (es fs : List Element)
    → (more : List ℕ) × (bytes_of_level weighting (es ++ fs) level ≡ bytes_of_level weighting es level ++ more)
level_begins level weighting es fs =
    let before = weighted weighting es in
    let after = weighted_following weighting (reverse_aux es []) fs in
    let p : ℕ → Bool = λ w. not (nat_eq w 0) in (
      level_bytes (level_list level after),
      ap (λ l. level_bytes (level_list level l)) (weighted-append weighting [] es fs)
          ∙ ap (λ l. level_bytes (filter p l)) (map-append (weight_at level) before after)
          ∙ ap level_bytes (filter-append p (map (weight_at level) before) (map (weight_at level) after))
          ∙ flat_map-append weight_bytes (level_list level before) (level_list level after),
    )

-- a key begins with level 1
weights_begin : (weighting : Weighting) (es : List Element) → (more : List ℕ) × (key_bytes weighting es ≡ bytes_of_level weighting es 1 ++ more)
weights_begin NonIgnorable es = (0 ∷ 0 ∷ levels_bytes (level_lists_from 2 2 (weighted NonIgnorable es)), refl)
weights_begin Shifted es = (0 ∷ 0 ∷ levels_bytes (level_lists_from 2 3 (weighted Shifted es)), refl)

key_begins : (depth : Depth) (weighting : Weighting) (t : ReadText)
    → (more : List ℕ) × (key_at depth weighting t ≡ bytes_of_level weighting t.elements 1 ++ more)
key_begins Weights weighting t = weights_begin weighting t.elements
key_begins Identical weighting t =
    let (more, is) = weights_begin weighting t.elements in
    let points = 0 ∷ 0 ∷ points_bytes t.points in
    (more ++ points, ap (λ l. l ++ points) is ∙ append_assoc (bytes_of_level weighting t.elements 1) more points)

-- so sixteen bytes of level 1 of some elements are those of the key
pub begins_key : (c : Collation) (depth : Depth) (weighting : Weighting) (xs : List ℕ) (levels : LevelState) (key : List ℕ)
    → HasBegun c weighting xs levels → 16 ≤ length levels.primary → key ≡ levels.primary
    → take 16 key ≡ take 16 (key_at depth weighting (read_text c (nfd_text c.properties xs)))
begins_key c depth weighting xs levels key begun enough is =
    let text = read_text c (nfd_text c.properties xs) in
    let (after, first) = key_begins depth weighting text in
    let (more, level) = level_begins 1 weighting begun.elements begun.more in
    let whole : key_at depth weighting text ≡ levels.primary ++ (more ++ after) =
    first
    ∙ ap (λ es. bytes_of_level weighting es 1 ++ after) begun.parts
    ∙ ap (λ l. l ++ after) level
    ∙ append_assoc (bytes_of_level weighting begun.elements 1) more after
    ∙ ap (λ l. l ++ (more ++ after)) (sym begun.held.primary) in
    ap (take 16) is ∙ sym (take-append-le 16 levels.primary (more ++ after) enough) ∙ ap (take 16) (sym whole)

-- ---- The first pieces of a text

-- the text that is read so far, the next code point, and what is left
pub text_parts : (all xs : List ℕ) (x : ℕ) → map (λ c. c) xs ≡ take (length xs) all → (length xs < length all) × (x ≡ get_or all (length xs) x)
    → all ≡ (xs ++ x ∷ []) ++ drop (length xs + 1) all
text_parts all xs x so_far next =
    let more : take (length xs + 1) all ≡ xs ++ x ∷ [] =
    take_more all (length xs) x next.0 ∙ ap (λ l. l ++ get_or all (length xs) x ∷ []) (sym so_far ∙ map-id xs) ∙ ap (λ y. xs ++ y ∷ []) (sym next.1) in
    sym (take-append-drop (length xs + 1) all) ∙ ap (λ l. l ++ drop (length xs + 1) all) more

-- what is read so far has enough bytes at level 1
pub begun_early : (c : Collation) (weighting : Weighting) (all xs rest : List ℕ) (levels : LevelState) (piece : Piece)
    → all ≡ xs ++ rest → ReadsTo c weighting xs levels piece → 16 ≤ length levels.primary → HasBegun c weighting all levels
begun_early c weighting all xs rest levels piece is reads enough =
    let last = piece_points piece ++ rest in
    let whole : all ≡ reads.before ++ last = is ∙ ap (λ l. l ++ rest) reads.split ∙ append_assoc reads.before (piece_points piece) rest in
    record {
      elements = elements_of c (nfd_text c.properties reads.before);
      more = elements_of c (nfd_text c.properties last);
      parts = ap (λ l. elements_of c (nfd_text c.properties l)) whole ∙ sym (elements_joined c reads.before last (longer reads.begins));
      held = reads.held;
      whole = λ short. absurd (omega (arith, enough, short));
    }
  where
    longer : Begins c reads.before (piece_points piece) → Begins c reads.before (piece_points piece ++ rest)
    longer (inl empty) = inl empty
    longer (inr (y, ys, begins, plain)) = inr (y, ys ++ rest, ap (λ l. l ++ rest) begins, plain)

-- all is read
pub begun_all : {E : Type 0} (c : Collation) (weighting : Weighting) (xs : List ℕ) (levels : LevelState) (r : Result Bool E)
    → IfOk r (λ ok. OnTrue ok (HasRead c weighting xs levels)) → IfOk r (λ ok. OnTrue ok (HasBegun c weighting xs levels))
unfolding HasRead
begun_all c weighting xs levels (Ok true) read = record {
  elements = elements_of c (nfd_text c.properties xs);
  more = [];
  parts = sym (append-nil (elements_of c (nfd_text c.properties xs)));
  held = read.0;
  whole = λ short. read;
}
begun_all c weighting xs levels (Ok false) read = tt
begun_all c weighting xs levels (Err e) read = tt

-- ---- The rest is judged

-- a text decomposes to at most two code points for each byte
bytes_counted : (text : List ℕ) → IsUtf8 text → length (flat_map (decompose Nfd) (chars text)) ≤ 2 * length text
unfolding decomposed
bytes_counted text utf8 = omega (
  arith,
  length-normalize-chars Nfd text utf8,
  ap length (normalize-Nfd (chars text)),
  length-canonical_order (flat_map (decompose Nfd) (chars text)),
)

-- so bytes are passed over, and only their number is counted
pub bytes_passed : (text passed rest : List ℕ) (count more : ℕ) → text ≡ passed ++ rest → IsUtf8 passed → count + 2 * length passed ≤ more
    → HasPassed text rest count more
bytes_passed text passed rest count more is utf8 sum = record {
  passed = chars passed;
  split = ap chars is ∙ chars-append passed rest utf8;
  counted = omega (arith, bytes_counted passed utf8);
}

-- what is left has no more code points
pub passed_shorter : (text rest : List ℕ) (count more : ℕ) → HasPassed text rest count more → length (chars rest) ≤ length (chars text)
passed_shorter text rest count more over = omega (arith, ap length over.split, length-append over.passed (chars rest))

module _ (c : Collation) where
  abbrev Runs : List ℕ → Type 0
  Runs xs = HasNoLongRun (map c.properties.class (nfd xs))

  -- few code points are no long run
  few_runs : (xs : List ℕ) → length (flat_map (decompose Nfd) xs) ≤ 64 → Runs xs
  unfolding decomposed
  few_runs xs few = few_have_no_long_run (map c.properties.class (nfd xs))
      (omega (arith, length-map (nfd xs) c.properties.class, ap length (normalize-Nfd xs), length-canonical_order (flat_map (decompose Nfd) xs), few))

  -- nothing is read
  judged_none : IsJudged c [] 0
  judged_none = record {
    before = [];
    last = [];
    split = refl;
    runs = few_runs [] (omega arith);
    begins = inl refl;
    counted = omega arith;
    few = omega arith;
  }

  -- a text that was judged has no long run
  judged_runs : (xs : List ℕ) (count : ℕ) → IsJudged c xs count → Runs xs
  judged_runs xs count judged = subst Runs (sym judged.split) (joined judged.begins)
    where
      last : Runs judged.last
      last = few_runs judged.last (omega (arith, judged.counted, judged.few))

      joined : (judged.before ≡ []) ⊎ ((y : ℕ) × (ys : List ℕ) × (judged.last ≡ y ∷ ys) × BeginsWithStarter c y) → Runs (judged.before ++ judged.last)
      joined (inl none) = subst (λ l. Runs (l ++ judged.last)) (sym none) last
      joined (inr (y, ys, is, starts)) = subst (λ l. Runs (judged.before ++ l)) (sym is)
          (pieces_have_no_long_run y starts.first starts.more starts.split starts.starter c.properties.class starts.class judged.before ys judged.runs
          (subst Runs is last))

  -- more code points, which are counted one by one
  judged_longer : (xs ps : List ℕ) (count more : ℕ) → IsJudged c xs count → count + length (flat_map (decompose Nfd) ps) ≤ more → more ≤ 64
      → IsJudged c (xs ++ ps) more
  judged_longer xs ps count more judged counted few = record {
    before = judged.before;
    last = judged.last ++ ps;
    split = ap (λ l. l ++ ps) judged.split ∙ append_assoc judged.before judged.last ps;
    runs = judged.runs;
    begins = longer judged.begins;
    counted = omega (
      arith,
      judged.counted,
      counted,
      ap length (flat_map-append (decompose Nfd) judged.last ps),
      length-append (flat_map (decompose Nfd) judged.last) (flat_map (decompose Nfd) ps),
    );
    few = few;
  }
    where
      longer : (judged.before ≡ []) ⊎ ((y : ℕ) × (ys : List ℕ) × (judged.last ≡ y ∷ ys) × BeginsWithStarter c y)
          → (judged.before ≡ []) ⊎ ((y : ℕ) × (ys : List ℕ) × (judged.last ++ ps ≡ y ∷ ys) × BeginsWithStarter c y)
      longer (inl none) = inl none
      longer (inr (y, ys, begins, starts)) = inr (y, ys ++ ps, ap (λ l. l ++ ps) begins, starts)

  -- one code point more
  judged_more : (xs : List ℕ) (x count more : ℕ) (known : KnownPoint) → known.point ≡ x → HasTrueDecomposition c known → IsJudged c xs count
      → more ≡ counted_on known count → more ≤ 64 → IsJudged c (xs ++ x ∷ []) more
  judged_more xs x count more known is true_of judged counted few = by known.starts refl counted
    where
      alone : length (flat_map (decompose Nfd) (x ∷ [])) ≤ known.len
      alone = omega (arith, subst (λ y. length (decompose Nfd y) ≤ known.len) is true_of.few, length-append (decompose Nfd x) [])

      by : (b : Bool) → known.starts ≡ b → more ≡ cond b 0 count + known.len → IsJudged c (xs ++ x ∷ []) more
      by true starts sum = record {
        before = xs;
        last = x ∷ [];
        split = refl;
        runs = judged_runs xs count judged;
        begins = inr (x, [], refl, subst (BeginsWithStarter c) is (true_of.starts starts));
        counted = omega (arith, alone);
        few = few;
      }
      by false starts sum = judged_longer xs (x ∷ []) count more judged (omega (arith, alone)) few

  -- no part of a text is judged yet
  pub judge_begun : (text : List ℕ) → IsJudgedTo c (chars text) text 0
  judge_begun text = record { done = []; split = refl; judged = judged_none }

  -- code points that are passed over
  pub judge_passes : (all text rest : List ℕ) (count more : ℕ) → HasPassed text rest count more → more ≤ 64 → IsJudgedTo c all text count → IsJudgedTo c all rest more
  judge_passes all text rest count more over few so_far = record {
    done = so_far.done ++ over.passed;
    split = so_far.split ∙ ap (λ l. so_far.done ++ l) over.split ∙ sym (append_assoc so_far.done over.passed (chars rest));
    judged = judged_longer so_far.done over.passed count more so_far.judged over.counted few;
  }

  -- the next code point is counted
  pub judge_counts : (all text rest : List ℕ) (x count more : ℕ) (known : KnownPoint) → chars text ≡ x ∷ chars rest → known.point ≡ x → HasTrueDecomposition c known
      → more ≡ counted_on known count → more ≤ 64 → IsJudgedTo c all text count → IsJudgedTo c all rest more
  judge_counts all text rest x count more known first is true_of sum few so_far = record {
    done = so_far.done ++ x ∷ [];
    split = so_far.split ∙ ap (λ l. so_far.done ++ l) first ∙ sym (append_assoc so_far.done (x ∷ []) (chars rest));
    judged = judged_more so_far.done x count more known is true_of so_far.judged sum few;
  }

  -- all of a text is judged
  pub judge_ends : (all text : List ℕ) (count : ℕ) → chars text ≡ [] → IsJudgedTo c all text count → Runs all
  judge_ends all text count none so_far =
      subst Runs (sym (so_far.split ∙ ap (λ l. so_far.done ++ l) none ∙ append-nil so_far.done)) (judged_runs so_far.done count so_far.judged)

-- ---- The whole text, if it is accepted

pub accepted_if_short : {E : Type 0} (c : Collation) (text : List ℕ) (r : Result Bool E) → IsUtf8 text → length text ≤ 524288
    → IfOk r (λ ok. OnTrue ok (HasNoLongRun (map c.properties.class (nfd (chars text))))) → IfOk r (λ ok. OnTrue ok (IsAccepted (nfd_text c.properties (chars text))))
accepted_if_short c text (Ok true) utf8 short runs = record {
  same = length-map (nfd (chars text)) c.properties.class;
  few = omega (arith, length-normalize-chars Nfd text utf8);
  short_runs = runs;
}
accepted_if_short c text (Ok false) utf8 short runs = tt
accepted_if_short c text (Err e) utf8 short runs = tt

-- the beginning that was written, whether the text is accepted or not
pub beginning_if_begun : {E : Type 0} (c : Collation) (held state : KeyState) (xs key : List ℕ) (levels : LevelState) (r : Result Bool E) → held ≡ state
    → HasBegun c held.weighting xs levels → 16 ≤ length levels.primary → key ≡ levels.primary
    → IfOk r (λ ok. OnTrue ok (take 16 key ≡ take 16 (key_as_it_is c state.weighting state.depth xs)))
beginning_if_begun c held state xs key levels r same begun enough is =
    on_any r (begins_key c state.depth state.weighting xs levels key (subst (λ (s : KeyState). HasBegun c s.weighting xs levels) same begun) enough is)

-- a shorter key is whole
pub whole_if_begun : (c : Collation) (held state : KeyState) (xs key : List ℕ) (levels : LevelState) → held ≡ state → held.depth ≡ Weights
    → HasBegun c held.weighting xs levels → length levels.primary < 16 → ((es : List Element) → HoldsLevels held.weighting es levels → key ≡ key_bytes held.weighting es)
    → take 16 key ≡ take 16 (key_as_it_is c state.weighting state.depth xs)
whole_if_begun c held state xs key levels same depth begun short joined =
    ap (take 16) (key_if_read c held state xs key levels same depth (begun.whole short) joined)
