-- How the reading of a text goes on.
use Rattle.std.specs.Prelude.{ℕ, List, ◌++◌, chars}
use Rattle.std.specs.Bool.{OnTrue}
use Rattle.uca_weights.specs.declared.Weighting.{Weighting}
use Rattle.uca_elements.specs.Collations.{Collation}
use Rattle.uca_key_writer.specs.declared.pieces.Piece.{Piece}
use Rattle.uca_key_writer.specs.declared.pieces.Reading.{Reading}
use Rattle.uca_key_writer.specs.declared.pieces.Reading.TheVariants.{GoesOn, Ended}
use Rattle.uca_key_writer.specs.inside.LevelBuffers.{LevelState}
use Rattle.uca_key_writer.specs.inside.Pieces.{HasRead}
use Rattle.uca_key_writer.specs.inside.Stretches.{ReadsMore}

-- after the text so far, some of a text was read, or all of it
abbrev pub ReadsOn : Collation → Weighting → List ℕ → List ℕ → LevelState → Piece → Reading → Type 0
ReadsOn c weighting xs text levels piece (GoesOn rest) = ReadsMore c weighting xs text rest.now levels piece
ReadsOn c weighting xs text levels piece (Ended accepted) = OnTrue accepted (HasRead c weighting (xs ++ chars text) levels)
