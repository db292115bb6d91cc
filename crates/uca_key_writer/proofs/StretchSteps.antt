-- Reading plain code points in a row, step by step.
use Rattle.std.proofs.Common.{◌≡◌, ℕ, ◌≤◌, Result, Ok, Err, IfOk, List, [], ◌∷◌, ◌++◌, inr, Some, refl, sym, ap, subst, ◌∙◌, append-nil, append_assoc, arith, take, length, length-append, ◌<◌, Bool, true, nat_eq}
use Rattle.std.specs.Bool.{OnTrue}
use Rattle.std.specs.Str.{chars}
use Rattle.std.specs.String.{string_bytes}
use Rattle.std.proofs.lemmas.Bool.Decides.{nat_tests}
use Rattle.std.proofs.lemmas.List.{nil_from_length}
use Rattle.std.proofs.lemmas.Str.{chars-nil}
use Rattle.uca_weights.specs.declared.Weighting.{Weighting}
use Rattle.uca_text.specs.Texts.{nfd_text}
use Rattle.uca_elements.specs.Collations.{Collation, elements_of}
use Rattle.uca_plain.specs.declared.plain.KnownPoint.{KnownPoint}
use Rattle.uca_key_writer.specs.declared.pieces.Piece.{Piece}
use Rattle.uca_key_writer.specs.declared.pieces.Reading.{Reading}
use Rattle.uca_key_writer.specs.declared.pieces.Reading.TheVariants.{GoesOn, Ended}
use Rattle.uca_key_writer.specs.inside.LevelBuffers.{LevelState, HoldsLevels}
use Rattle.uca_plain.specs.PointCache.{IsTrueEntry}
use Rattle.uca_key_writer.specs.inside.Pieces.{points_by, piece_points, IsTrueAlone, ReadsTo, HasRead}
use Rattle.uca_key_writer.specs.inside.Readings.{ReadsOn}
use Rattle.uca_key_writer.specs.inside.Stretches.{ReadsUpTo, ReadsSome, ReadsMore}
use Rattle.uca_plain.proofs.PlainTexts.{alone_no_long_run, plain_texts, plain_no_long_run}
use Rattle.uca_key_writer.proofs.PieceSteps.{elements_joined, runs_joined}

-- a text of no bytes
pub no_chars : (text : List ℕ) (len : ℕ) (is_empty : Bool) → is_empty ≡ nat_eq len 0 → is_empty ≡ true → len ≡ length text → chars text ≡ []
no_chars text len is_empty tests empty is = ap chars (nil_from_length text (grind (arith, nat_tests))) ∙ chars-nil

-- the piece that is one plain code point
pub alone_up_to : (c : Collation) (weighting : Weighting) (xs : List ℕ) (b : LevelState) (piece : Piece) (known : KnownPoint)
    → piece.alone ≡ Some known → ReadsUpTo c weighting xs b known → ReadsTo c weighting xs b piece
unfolding HasRead
alone_up_to c weighting xs b piece known is reads =
    let points : piece_points piece ≡ known.point ∷ [] = ap (λ o. points_by o (chars (string_bytes piece.text))) is in
    record {
      before = reads.before;
      split = reads.split ∙ ap (λ l. reads.before ++ l) (sym points);
      held = reads.read.0;
      runs = reads.read.1;
      begins = inr (known.point, [], points, (reads.entry reads.few).0);
      alone = subst (IsTrueAlone c) (sym is) (reads.few, reads.entry);
    }

-- the last code point gives its elements, too
pub read_last : (c : Collation) (weighting : Weighting) (xs : List ℕ) (old new : LevelState) (last : KnownPoint)
    → (reads : ReadsUpTo c weighting xs old last)
    → HoldsLevels weighting (elements_of c (nfd_text c.properties reads.before) ++ take last.count last.elements) new
    → HasRead c weighting xs new
unfolding HasRead
read_last c weighting xs old new last reads holds =
    let point = last.point in
    let entry = reads.entry reads.few in
    let begins = inr (point, [], refl, entry.0) in
    let joined = ap (λ es. elements_of c (nfd_text c.properties reads.before) ++ es) entry.1
    ∙ elements_joined c reads.before (point ∷ []) begins in
    subst (λ l. HasRead c weighting l new) (sym reads.split) (
      subst (λ es. HoldsLevels weighting es new) joined holds,
      runs_joined c reads.before (point ∷ []) begins reads.read.1 (alone_no_long_run c.properties.class point),
    )

-- and one more comes
pub read_next : (c : Collation) (weighting : Weighting) (xs text rest after : List ℕ) (old new : LevelState) (last next : KnownPoint)
    → (some : ReadsSome c weighting xs text rest old last)
    → HoldsLevels weighting (elements_of c (nfd_text c.properties some.reads.before) ++ take last.count last.elements) new
    → chars rest ≡ next.point ∷ chars after → next.count ≤ 3 → IsTrueEntry c next
    → ReadsSome c weighting xs text after new next
read_next c weighting xs text rest after old new last next some holds is few entry = record {
  more = some.more ++ next.point ∷ [];
  split = some.split ∙ ap (λ l. some.more ++ l) is ∙ sym (append_assoc some.more (next.point ∷ []) (chars after));
  reads = record {
    before = xs ++ some.more;
    split = sym (append_assoc xs some.more (next.point ∷ []));
    read = read_last c weighting (xs ++ some.more) old new last some.reads holds;
    few = few;
    entry = entry;
  };
}

-- at the beginning of a stretch
pub stretch_begins : (c : Collation) (weighting : Weighting) (xs text : List ℕ) (b : LevelState) (known : KnownPoint) → ReadsUpTo c weighting xs b known
    → ReadsSome c weighting xs text text b known
stretch_begins c weighting xs text b known reads = record {
  more = [];
  split = refl;
  reads = subst (λ l. ReadsUpTo c weighting l b known) (sym (append-nil xs)) reads;
}

-- at its end with the text
pub stretch_ends : (c : Collation) (weighting : Weighting) (xs text rest : List ℕ) (old new : LevelState) (last : KnownPoint)
    → (some : ReadsSome c weighting xs text rest old last) → chars rest ≡ []
    → HoldsLevels weighting (elements_of c (nfd_text c.properties some.reads.before) ++ take last.count last.elements) new
    → HasRead c weighting (xs ++ chars text) new
stretch_ends c weighting xs text rest old new last some none holds =
    let all : chars text ≡ some.more = some.split ∙ ap (λ l. some.more ++ l) none ∙ append-nil some.more in
    subst (λ l. HasRead c weighting (xs ++ l) new) (sym all) (read_last c weighting (xs ++ some.more) old new last some.reads holds)

-- a text begins with a plain code point
pub begins_plain : (c : Collation) (weighting : Weighting) (b : LevelState) (first : KnownPoint) → HoldsLevels weighting [] b → first.count ≤ 3
    → IsTrueEntry c first → ReadsUpTo c weighting (first.point ∷ []) b first
unfolding HasRead
begins_plain c weighting b first empty few entry = record {
  before = [];
  split = refl;
  read = (subst (λ es. HoldsLevels weighting es b) (sym (plain_texts c [] tt)) empty, plain_no_long_run c [] tt);
  few = few;
  entry = entry;
}

-- and what was read after its first code point was read of the text
pub read_from_first : {E : Type 0} (c : Collation) (weighting : Weighting) (text after : List ℕ) (x : ℕ) (b : LevelState) (piece : Piece) (r : Result Reading E)
    → chars text ≡ x ∷ chars after → IfOk r (ReadsOn c weighting (x ∷ []) after b piece) → IfOk r (ReadsOn c weighting [] text b piece)
read_from_first c weighting text after x b piece (Ok (GoesOn rest)) is read = record {
  more = x ∷ read.more;
  split = is ∙ ap (λ l. x ∷ l) read.split;
  reads = read.reads;
}
read_from_first c weighting text after x b piece (Ok (Ended accepted)) is read = subst (λ l. OnTrue accepted (HasRead c weighting l b)) (sym is) read
read_from_first c weighting text after x b piece (Err e) is read = tt

-- where the stretch stops, its last code point is the piece
pub piece_stops : (c : Collation) (weighting : Weighting) (xs text rest : List ℕ) (b : LevelState) (piece : Piece) (known : KnownPoint)
    → piece.alone ≡ Some known → ReadsSome c weighting xs text rest b known → ReadsMore c weighting xs text rest b piece
piece_stops c weighting xs text rest b piece known is some = record {
  more = some.more;
  split = some.split;
  reads = alone_up_to c weighting (xs ++ some.more) b piece known is some.reads;
}

-- nothing more is read
pub piece_waits : (c : Collation) (weighting : Weighting) (xs text : List ℕ) (b : LevelState) (piece : Piece) → ReadsTo c weighting xs b piece
    → ReadsMore c weighting xs text text b piece
piece_waits c weighting xs text b piece reads = record {
  more = [];
  split = refl;
  reads = subst (λ l. ReadsTo c weighting l b piece) (sym (append-nil xs)) reads;
}

-- an empty piece adds nothing
pub piece_is_empty : (c : Collation) (weighting : Weighting) (xs : List ℕ) (b : LevelState) (piece : Piece) → piece_points piece ≡ []
    → ReadsTo c weighting xs b piece → HasRead c weighting xs b
unfolding HasRead
piece_is_empty c weighting xs b piece none reads =
    let all : xs ≡ reads.before = reads.split ∙ ap (λ l. reads.before ++ l) none ∙ append-nil reads.before in
    subst (λ l. HasRead c weighting l b) (sym all) (reads.held, reads.runs)

-- one code point more, and then some of what follows it
pub piece_goes_on : (c : Collation) (weighting : Weighting) (text rest more after : List ℕ) (x : ℕ) (old new : LevelState) (was piece : Piece)
    → (before : ReadsMore c weighting [] text rest old was) → chars rest ≡ x ∷ chars more
    → ReadsMore c weighting (before.more ++ x ∷ []) more after new piece → ReadsMore c weighting [] text after new piece
piece_goes_on c weighting text rest more after x old new was piece before is now = record {
  more = (before.more ++ x ∷ []) ++ now.more;
  split = before.split ∙ ap (λ l. before.more ++ l) (is ∙ ap (λ l. x ∷ l) now.split) ∙ sym (append_assoc before.more (x ∷ []) (now.more ++ chars after))
      ∙ sym (append_assoc (before.more ++ x ∷ []) now.more (chars after));
  reads = now.reads;
}

-- one code point more, and then all that follows it
pub text_ends : (c : Collation) (weighting : Weighting) (text rest more : List ℕ) (x : ℕ) (old new : LevelState) (was : Piece) (accepted : Bool)
    → (before : ReadsMore c weighting [] text rest old was) → chars rest ≡ x ∷ chars more
    → OnTrue accepted (HasRead c weighting ((before.more ++ x ∷ []) ++ chars more) new) → OnTrue accepted (HasRead c weighting (chars text) new)
text_ends c weighting text rest more x old new was accepted before is read =
    let whole = append_assoc before.more (x ∷ []) (chars more) ∙ ap (λ l. before.more ++ l) (sym is) ∙ sym before.split in
    subst (λ l. OnTrue accepted (HasRead c weighting l new)) whole read

-- what was read after a code point, where the result is known
pub read_on : (c : Collation) (weighting : Weighting) (xs : List ℕ) (levels : LevelState) (piece : Piece) (x : ℕ) (text : List ℕ) (y : ℕ)
    (found reading : Reading) → y ≡ x → found ≡ reading → ReadsOn c weighting (xs ++ y ∷ []) text levels piece found
    → ReadsOn c weighting (xs ++ x ∷ []) text levels piece reading
read_on c weighting xs levels piece x text y found reading same is reads =
    subst (ReadsOn c weighting (xs ++ x ∷ []) text levels piece) is (subst (λ x. ReadsOn c weighting (xs ++ x ∷ []) text levels piece found) same reads)

-- less of a text is left then
pub less_to_read : (rest more after : List ℕ) (x : ℕ) (read : List ℕ) → chars rest ≡ x ∷ chars more → chars more ≡ read ++ chars after
    → length (chars after) < length (chars rest)
less_to_read rest more after x read is split = omega (arith, ap length is, ap length split, length-append read (chars after))
