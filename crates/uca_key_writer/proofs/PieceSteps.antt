-- Reading a text piece by piece, step by step.
use Rattle.std.proofs.Common.{◌≡◌, ℕ, ◌<◌, ◌≤◌, ◌^◌, length, arith, Bool, true, false, List, [], ◌∷◌, ◌++◌, ◌⊎◌, inl, inr, Some, None, Result, Ok, Err, map, refl, sym, ap, subst, ◌∙◌, append_assoc, encode_utf8_all, ◌-◌, take, drop, take-append-drop, length-append}
use Rattle.std.specs.Prelude.{IfOk}
use Rattle.std.specs.Bool.{OnTrue}
use Rattle.std.specs.Str.{chars, IsUtf8, IsCharBoundary}
use Rattle.std.specs.String.{string_bytes}
use Rattle.std.proofs.lemmas.Str.{encodes-chars, encodes-append, chars_from_encodes, IsCharBoundary-at_seam}
use Rattle.std.proofs.lemmas.List.{length-map}
use Rattle.unicode_normalization.specs.Forms.{nfd, Nfd}
use Rattle.unicode_normalization.proofs.LengthLemmas.{length-normalize-chars}
use Rattle.uca_weights.specs.declared.Depth.{Depth}
use Rattle.uca_weights.specs.declared.Depth.TheVariants.{Weights}
use Rattle.uca_weights.specs.declared.Element.{Element}
use Rattle.uca_weights.specs.declared.Weighting.{Weighting}
use Rattle.uca_weights.specs.declared.Weighting.TheVariants.{NonIgnorable, Shifted}
use Rattle.uca_text.specs.Texts.{NfdText, nfd_text}
use Rattle.uca_text.specs.Limits.{HasNoLongRun, IsAccepted}
use Rattle.uca_text.proofs.NfdPieces.{pieces_have_no_long_run}
use Rattle.uca_elements.specs.Collations.{Collation, elements_of}
use Rattle.uca_plain.specs.declared.plain.KnownPoint.{KnownPoint}
use Rattle.uca_key_writer.specs.declared.pieces.Piece.{Piece}
use Rattle.uca_order.specs.Levels.{key_bytes}
use Rattle.uca_order.specs.Depths.{read_text, key_at}
use Rattle.uca_order.specs.Lengths.{HasShortRows}
use Rattle.uca_key_writer.specs.Buffers.{KeyState}
use Rattle.uca_key_writer.specs.KeyLevels.{AreLevelsOf}
use Rattle.uca_key_writer.specs.inside.AsItIs.{key_as_it_is}
use Rattle.uca_key_writer.specs.inside.LevelBuffers.{LevelState, HoldsLevels, four_levels}
use Rattle.uca_plain.specs.Plain.{IsPlain}
use Rattle.uca_plain.specs.PointCache.{IsTrueEntry}
use Rattle.uca_key_writer.specs.inside.Pieces.{points_by, piece_points, IsTrueAlone, ReadsTo, HasRead}
use Rattle.uca_order.proofs.KeyLength.{keys_short}
use Rattle.uca_plain.proofs.PlainTexts.{read_before, plain_texts, plain_no_long_run}

-- a text with more at its end
pub chars_extended : (old new more : List ℕ) → IsUtf8 old → IsUtf8 new → IsUtf8 more → new ≡ old ++ more → chars new ≡ chars old ++ chars more
chars_extended old new more utf8 whole more_utf8 is =
    let bytes : encode_utf8_all (chars old ++ chars more) ≡ new =
    encodes-append (chars old) (chars more) ∙ ap (λ l. l ++ encode_utf8_all (chars more)) (encodes-chars old utf8)
    ∙ ap (λ l. old ++ l) (encodes-chars more more_utf8) ∙ sym is in
    sym (chars_from_encodes (chars old ++ chars more) new whole bytes)

-- a text that ends in another one is cut where that begins
pub text_seam : (text rest more : List ℕ) → IsUtf8 text → IsUtf8 rest → chars text ≡ more ++ chars rest → text ≡ encode_utf8_all more ++ rest
text_seam text rest more utf8 rest_utf8 is =
    sym (encodes-chars text utf8) ∙ ap encode_utf8_all is ∙ encodes-append more (chars rest) ∙ ap (λ l. encode_utf8_all more ++ l) (encodes-chars rest rest_utf8)

pub seam_shorter : (text rest more : List ℕ) → IsUtf8 text → IsUtf8 rest → chars text ≡ more ++ chars rest → length rest ≤ length text
seam_shorter text rest more utf8 rest_utf8 is =
    omega (arith, ap length (text_seam text rest more utf8 rest_utf8 is), length-append (encode_utf8_all more) rest)

pub seam_boundary : (text rest more : List ℕ) → IsUtf8 text → IsUtf8 rest → chars text ≡ more ++ chars rest
    → IsCharBoundary text (length text - length rest)
seam_boundary text rest more utf8 rest_utf8 is =
    let seam = text_seam text rest more utf8 rest_utf8 is in
    let at : length (encode_utf8_all more) ≡ length text - length rest =
    omega (arith, ap length seam, length-append (encode_utf8_all more) rest) in
    subst (IsCharBoundary text) at (IsCharBoundary-at_seam text (encode_utf8_all more) rest seam rest_utf8)

-- the two parts of a text that is cut have its code points
pub chars_cut : (text front back : List ℕ) (n : ℕ) → IsUtf8 text → IsUtf8 front → IsUtf8 back → front ≡ take n text → back ≡ drop n text
    → chars text ≡ chars front ++ chars back
chars_cut text front back n utf8 front_utf8 back_utf8 is_front is_back =
    chars_extended front text back front_utf8 utf8 back_utf8
    (sym (take-append-drop n text) ∙ ap (λ l. l ++ drop n text) (sym is_front) ∙ ap (λ l. front ++ l) (sym is_back))

-- a piece begins with a plain code point, or at the begin of the text
abbrev pub Begins : Collation → List ℕ → List ℕ → Type 0
Begins c before ps = (before ≡ []) ⊎ ((y : ℕ) × (ys : List ℕ) × (ps ≡ y ∷ ys) × IsPlain c y)

-- the text before a piece, and the piece
pub elements_joined : (c : Collation) (before ps : List ℕ) → Begins c before ps →
    elements_of c (nfd_text c.properties before) ++ elements_of c (nfd_text c.properties ps) ≡ elements_of c (nfd_text c.properties (before ++ ps))
elements_joined c before ps (inl none) =
    ap (λ l. elements_of c (nfd_text c.properties l) ++ elements_of c (nfd_text c.properties ps)) none
    ∙ ap (λ es. es ++ elements_of c (nfd_text c.properties ps)) (plain_texts c [] tt)
    ∙ ap (λ l. elements_of c (nfd_text c.properties (l ++ ps))) (sym none)
elements_joined c before ps (inr (y, ys, is, plain)) =
    ap (λ l. elements_of c (nfd_text c.properties before) ++ elements_of c (nfd_text c.properties l)) is
    ∙ sym (read_before c before y ys plain)
    ∙ ap (λ l. elements_of c (nfd_text c.properties (before ++ l))) (sym is)

pub runs_joined : (c : Collation) (before ps : List ℕ) → Begins c before ps → HasNoLongRun (map c.properties.class (nfd before))
    → HasNoLongRun (map c.properties.class (nfd ps)) → HasNoLongRun (map c.properties.class (nfd (before ++ ps)))
runs_joined c before ps (inl none) first second = subst (λ l. HasNoLongRun (map c.properties.class (nfd (l ++ ps)))) (sym none) second
runs_joined c before ps (inr (y, ys, is, plain)) first second =
    let Runs : List ℕ → Type 0 = λ l. HasNoLongRun (map c.properties.class (nfd l)) in
    subst (λ l. Runs (before ++ l)) (sym is)
    (pieces_have_no_long_run y plain.first plain.more plain.split plain.starter c.properties.class plain.class before ys first (subst Runs is second))

-- a fact holds whatever the result is
pub on_any : {E P : Type 0} (r : Result Bool E) → P → IfOk r (λ ok. OnTrue ok P)
on_any (Ok true) p = p
on_any (Ok false) p = tt
on_any (Err e) p = tt

-- the piece is read to its end
pub end_piece : {E : Type 0} (c : Collation) (weighting : Weighting) (xs ps : List ℕ) (old new : LevelState) (piece : Piece) (r : Result Bool E)
    → (reads : ReadsTo c weighting xs old piece) → piece_points piece ≡ ps
    → IfOk r (λ ok. OnTrue ok (HoldsLevels weighting (elements_of c (nfd_text c.properties reads.before) ++ elements_of c (nfd_text c.properties ps)) new))
    → IfOk r (λ ok. OnTrue ok (HasNoLongRun (map c.properties.class (nfd ps)))) → IfOk r (λ ok. OnTrue ok (HasRead c weighting xs new))
unfolding HasRead
end_piece c weighting xs ps old new piece (Ok true) reads are holds runs =
    let begins : Begins c reads.before ps = subst (Begins c reads.before) are reads.begins in
    let whole : xs ≡ reads.before ++ ps = reads.split ∙ ap (λ l. reads.before ++ l) are in
    subst (λ l. HasRead c weighting l new) (sym whole) (
      subst (λ es. HoldsLevels weighting es new) (elements_joined c reads.before ps begins) holds,
      runs_joined c reads.before ps begins reads.runs runs,
    )
end_piece c weighting xs ps old new piece (Ok false) reads are holds runs = tt
end_piece c weighting xs ps old new piece (Err e) reads are holds runs = tt

-- the next piece begins with a plain code point
pub next_piece : (c : Collation) (weighting : Weighting) (xs : List ℕ) (b : LevelState) (piece : Piece) (known : KnownPoint) (ok : Bool)
    → piece.alone ≡ Some known → known.count ≤ 3 → IsTrueEntry c known → OnTrue ok (HasRead c weighting xs b)
    → OnTrue ok (ReadsTo c weighting (xs ++ known.point ∷ []) b piece)
unfolding HasRead
next_piece c weighting xs b piece known true is few entry read =
    let points : piece_points piece ≡ known.point ∷ [] = ap (λ o. points_by o (chars (string_bytes piece.text))) is in
    record {
      before = xs;
      split = ap (λ l. xs ++ l) (sym points);
      held = read.0;
      runs = read.1;
      begins = inr (known.point, [], points, (entry few).0);
      alone = subst (IsTrueAlone c) (sym is) (few, entry);
    }
next_piece c weighting xs b piece known false is few entry read = tt

-- the piece goes on by other code points
pub longer_piece : (c : Collation) (weighting : Weighting) (xs : List ℕ) (b : LevelState) (old new : Piece) (more : List ℕ)
    → piece_points new ≡ piece_points old ++ more → new.alone ≡ None → ReadsTo c weighting xs b old → ReadsTo c weighting (xs ++ more) b new
longer_piece c weighting xs b old new more is none reads = record {
  before = reads.before;
  split = ap (λ l. l ++ more) reads.split ∙ append_assoc reads.before (piece_points old) more ∙ ap (λ l. reads.before ++ l) (sym is);
  held = reads.held;
  runs = reads.runs;
  begins = longer reads.begins;
  alone = subst (IsTrueAlone c) (sym none) tt;
}
  where
    longer : Begins c reads.before (piece_points old) → Begins c reads.before (piece_points new)
    longer (inl empty) = inl empty
    longer (inr (y, ys, begins, plain)) = inr (y, ys ++ more, is ∙ ap (λ l. l ++ more) begins, plain)

-- at the begin of a text
pub begin_text : (c : Collation) (weighting : Weighting) (b : LevelState) (piece : Piece) → HoldsLevels weighting [] b → piece_points piece ≡ []
    → piece.alone ≡ None → ReadsTo c weighting [] b piece
begin_text c weighting b piece empty points none = record {
  before = [];
  split = sym points;
  held = subst (λ es. HoldsLevels weighting es b) (sym (plain_texts c [] tt)) empty;
  runs = plain_no_long_run c [] tt;
  begins = inl refl;
  alone = subst (IsTrueAlone c) (sym none) tt;
}

-- ---- The whole text, if it is accepted

-- what follows from a fact that holds where a text is accepted
pub on_accepted : {E P Q : Type 0} (r : Result Bool E) → (P → Q) → IfOk r (λ ok. OnTrue ok P) → IfOk r (λ ok. OnTrue ok Q)
on_accepted (Ok true) f p = f p
on_accepted (Ok false) f p = tt
on_accepted (Err e) f p = tt

pub accepted_if_read : (c : Collation) (weighting : Weighting) (text : List ℕ) (b : LevelState) → IsUtf8 text → length text ≤ 524288
    → HasRead c weighting (chars text) b → IsAccepted (nfd_text c.properties (chars text))
unfolding HasRead
accepted_if_read c weighting text b utf8 short read = record {
  same = length-map (nfd (chars text)) c.properties.class;
  few = omega (arith, length-normalize-chars Nfd text utf8);
  short_runs = read.1;
}

pub key_if_read : (c : Collation) (held state : KeyState) (xs key : List ℕ) (b : LevelState) → held ≡ state → held.depth ≡ Weights
    → HasRead c held.weighting xs b → ((es : List Element) → HoldsLevels held.weighting es b → key ≡ key_bytes held.weighting es)
    → key ≡ key_as_it_is c state.weighting state.depth xs
unfolding HasRead
key_if_read c held state xs key b same depth read joined =
    let by_weights : key ≡ key_at Weights held.weighting (read_text c (nfd_text c.properties xs)) = joined (elements_of c (nfd_text c.properties xs)) read.0 in
    by_weights
    ∙ ap (λ d. key_at d held.weighting (read_text c (nfd_text c.properties xs))) (sym depth)
    ∙ ap (λ (s : KeyState). key_as_it_is c s.weighting s.depth xs) same

pub short_if_read : (c : Collation) (weighting : Weighting) (depth : Depth) (text : NfdText) (key : List ℕ) → HasShortRows c.rows
    → key ≡ key_at depth weighting (read_text c text) → IsAccepted text → length key < 2 ^ 40
short_if_read c weighting depth text key short is accepted =
    subst (λ (l : List ℕ). length l < 2 ^ 40) (sym is) (keys_short c depth weighting text short accepted)

-- the levels that are held are those of the key
levels_held : (weighting : Weighting) (es : List Element) (b : LevelState) → HoldsLevels weighting es b → AreLevelsOf weighting es (four_levels b)
levels_held NonIgnorable es b h = λ i. h.primary i ∷ h.secondary i ∷ h.tertiary i ∷ []
levels_held Shifted es b h = λ i. h.primary i ∷ h.secondary i ∷ h.tertiary i ∷ h.quaternary i ∷ []

pub levels_if_read : (c : Collation) (held state : KeyState) (xs : List ℕ) (b : LevelState) → held ≡ state → HasRead c held.weighting xs b
    → AreLevelsOf state.weighting (elements_of c (nfd_text c.properties xs)) (four_levels b)
unfolding HasRead
levels_if_read c held state xs b same read =
    let es = elements_of c (nfd_text c.properties xs) in
    subst (λ (s : KeyState). AreLevelsOf s.weighting es (four_levels b)) same (levels_held held.weighting es b read.0)
