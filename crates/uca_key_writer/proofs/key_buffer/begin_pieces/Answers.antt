use Rattle.std.proofs.Common.{[], ◌∷◌}
use Rattle.uca_key_writer.proofs.PieceSteps.{begin_text}
use Rattle.uca_key_writer.proofs.StretchSteps.{piece_waits, begins_plain, read_from_first}
use Rattle.uca_key_writer.proofs.key_buffer.begin_pieces.Goals as goal

pub returns-in-Some : goal.returns-in-Some
returns-in-Some g c = λ collation entries.
    let first = c.in-Some.first.now in
    let begun = begins_plain collation c.args.weighting c.args.levels.now first c.requires c.in-Some.ensures.few (c.in-Some.ensures.entry collation entries) in
    read_from_first collation c.args.weighting c.args.text.now c.in-Some.more.now first.point _ _ c.go_on_plain.result c.in-Some.ensures.text
    (c.go_on_plain.ensures collation (first.point ∷ []) entries begun)

pub returns-in-None : goal.returns-in-None
returns-in-None g c = λ collation entries.
    piece_waits collation c.args.weighting [] c.args.text.now c.args.levels.now c.clear.new.self
    (begin_text collation c.args.weighting c.args.levels.now c.clear.new.self c.requires c.clear.ensures.points c.clear.ensures.alone)
