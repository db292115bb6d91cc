-- Reading a text piece by piece: it is cut before each plain code point.
use Rattle.std.specs.Prelude.{◌≡◌, ℕ, ◌≤◌, List, [], ◌∷◌, ◌++◌, ◌⊎◌, map, Option, Some, None, chars, ⊤}
use Rattle.std.specs.String.{string_bytes}
use Rattle.unicode_normalization.specs.Forms.{nfd}
use Rattle.uca_weights.specs.declared.Weighting.{Weighting}
use Rattle.uca_text.specs.Texts.{nfd_text}
use Rattle.uca_text.specs.Limits.{HasNoLongRun}
use Rattle.uca_elements.specs.Collations.{Collation, elements_of}
use Rattle.uca_plain.specs.declared.plain.KnownPoint.{KnownPoint}
use Rattle.uca_key_writer.specs.declared.pieces.Piece.{Piece}
use Rattle.uca_key_writer.specs.inside.LevelBuffers.{LevelState, HoldsLevels}
use Rattle.uca_plain.specs.Plain.{IsPlain}
use Rattle.uca_plain.specs.PointCache.{IsTrueEntry}

abbrev pub points_by : Option KnownPoint → List ℕ → List ℕ
points_by (Some known) text = known.point ∷ []
points_by None text = text

-- the code points of a piece
abbrev pub piece_points : Piece → List ℕ
piece_points piece = points_by piece.alone (chars (string_bytes piece.text))

-- a code point that is a piece alone has its elements in its entry
abbrev pub IsTrueAlone : Collation → Option KnownPoint → Type 0
IsTrueAlone c (Some known) = (known.count ≤ 3) × IsTrueEntry c known
IsTrueAlone c None = ⊤

-- The text so far. What comes before the piece has given its elements to the levels. The piece begins with a plain code
-- point, or where the text begins.
pub record ReadsTo (c : Collation) (weighting : Weighting) (xs : List ℕ) (levels : LevelState) (piece : Piece) : Type 0 where
  pub before : List ℕ
  pub split : xs ≡ before ++ piece_points piece
  pub held : HoldsLevels weighting (elements_of c (nfd_text c.properties before)) levels
  pub runs : HasNoLongRun (map c.properties.class (nfd before))
  pub begins : (before ≡ []) ⊎ ((y : ℕ) × (ys : List ℕ) × (piece_points piece ≡ y ∷ ys) × IsPlain c y)
  pub alone : IsTrueAlone c piece.alone

-- the levels have the elements of a text, which has no long run
unfoldable pub HasRead : Collation → Weighting → List ℕ → LevelState → Type 0
HasRead c weighting xs levels = HoldsLevels weighting (elements_of c (nfd_text c.properties xs)) levels × HasNoLongRun (map c.properties.class (nfd xs))
