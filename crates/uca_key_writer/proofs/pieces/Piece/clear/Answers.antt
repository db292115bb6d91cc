use Rattle.std.proofs.Common.{ap, ◌∙◌}
use Rattle.std.specs.Str.{chars}
use Rattle.std.proofs.lemmas.Str.{chars-nil}
use Rattle.uca_key_writer.proofs.pieces.Piece.clear.Goals as goal

pub returns-clause-points : goal.returns-clause-points
returns-clause-points c = ap chars c.clear.ensures.bytes ∙ chars-nil
