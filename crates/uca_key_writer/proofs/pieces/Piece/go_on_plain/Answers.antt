use Rattle.std.proofs.Common.{subst}
use Rattle.uca_key_writer.specs.inside.Stretches.{StretchReads}
use Rattle.uca_key_writer.proofs.StretchSteps.{piece_stops}
use Rattle.uca_key_writer.proofs.pieces.Piece.go_on_plain.Goals as goal

pub returns-in-Ok-Ended : goal.returns-in-Ok-Ended
returns-in-Ok-Ended g c = λ collation xs entries reads.
    subst (StretchReads collation c.args.weighting xs c.args.text.now c.push_stretch.new.self) c.in-Ok-Ended.field-0-is
    (c.in-Ok-Ended.ensures collation xs entries reads)

pub returns-in-Ok-Stopped : goal.returns-in-Ok-Stopped
returns-in-Ok-Stopped g c = λ collation xs entries reads.
    piece_stops collation c.args.weighting xs c.args.text.now _ _ _ c.in-Ok-Stopped.last c.begin.ensures.alone
    (subst (StretchReads collation c.args.weighting xs c.args.text.now c.push_stretch.new.self) c.in-Ok-Stopped.field-0-is
    (c.in-Ok-Stopped.ensures collation xs entries reads))
