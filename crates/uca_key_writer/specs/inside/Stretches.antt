-- Reading plain code points in a row.
use Rattle.std.specs.Prelude.{◌≡◌, ℕ, ◌≤◌, List, [], ◌∷◌, ◌++◌, chars}
use Rattle.uca_weights.specs.declared.Weighting.{Weighting}
use Rattle.uca_elements.specs.Collations.{Collation}
use Rattle.uca_plain.specs.declared.plain.KnownPoint.{KnownPoint}
use Rattle.uca_key_writer.specs.declared.pieces.Piece.{Piece}
use Rattle.uca_key_writer.specs.declared.stretches.Stretch.{Stretch}
use Rattle.uca_key_writer.specs.declared.stretches.Stretch.TheVariants.{Ended, Stopped}
use Rattle.uca_key_writer.specs.inside.LevelBuffers.{LevelState}
use Rattle.uca_key_writer.specs.inside.Pieces.{ReadsTo, HasRead}
use Rattle.uca_plain.specs.PointCache.{IsTrueEntry}

-- The text so far, which ends in a plain code point. What comes before that one has given its elements to the levels.
pub record ReadsUpTo (c : Collation) (weighting : Weighting) (xs : List ℕ) (levels : LevelState) (last : KnownPoint) : Type 0 where
  pub before : List ℕ
  pub split : xs ≡ before ++ last.point ∷ []
  pub read : HasRead c weighting before levels
  pub few : last.count ≤ 3
  pub entry : IsTrueEntry c last

-- after the text so far, some of a text was read, and the rest follows
pub record ReadsSome (c : Collation) (weighting : Weighting) (xs text rest : List ℕ) (levels : LevelState) (last : KnownPoint) : Type 0 where
  pub more : List ℕ
  pub split : chars text ≡ more ++ chars rest
  pub reads : ReadsUpTo c weighting (xs ++ more) levels last

-- after the text so far, a stretch has read a text or the beginning of it
abbrev pub StretchReads : Collation → Weighting → List ℕ → List ℕ → LevelState → Stretch → Type 0
StretchReads c weighting xs text levels Ended = HasRead c weighting (xs ++ chars text) levels
StretchReads c weighting xs text levels (Stopped last rest) = ReadsSome c weighting xs text rest.now levels last

-- after the text so far, some of a text was read up to a piece that goes on, and the rest follows
pub record ReadsMore (c : Collation) (weighting : Weighting) (xs text rest : List ℕ) (levels : LevelState) (piece : Piece) : Type 0 where
  pub more : List ℕ
  pub split : chars text ≡ more ++ chars rest
  pub reads : ReadsTo c weighting (xs ++ more) levels piece
