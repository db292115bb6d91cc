use Rattle.std.specs.Str.{chars}
use Rattle.uca_elements.specs.Collations.{collation_of}
use Rattle.uca_key_writer.proofs.PieceSteps.{levels_if_read, on_accepted}
use Rattle.uca_key_writer.proofs.key_buffer.KeyBuffer.write_levels.Goals as goal

pub returns-clause-levels : goal.returns-clause-levels
returns-clause-levels g c =
    let collation = collation_of g.L.Lookup.content c.args.collator.now in
    on_accepted c.take_pieces.result (levels_if_read collation _ c.args.self.now (chars c.args.text.now) _ c.self.view_is) c.take_pieces.ensures.read
