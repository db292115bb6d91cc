use Rattle.std.proofs.Common.{arith}
use Rattle.uca_elements.specs.Collations.{collation_of}
use Rattle.uca_key_writer.proofs.PieceSteps.{accepted_if_read, on_accepted}
use Rattle.uca_key_writer.proofs.key_buffer.take_pieces.Goals as goal

pub push_pieces-requires-clause-empty : goal.push_pieces-requires-clause-empty
push_pieces-requires-clause-empty g c = c.clear.ensures c.args.weighting

pub returns-in-Weights-clause-accepted : goal.returns-in-Weights-clause-accepted
returns-in-Weights-clause-accepted g c =
    let collation = collation_of g.L.Lookup.content c.args.collator.now in
    on_accepted c.push_pieces.result (accepted_if_read collation c.args.weighting c.args.text.now _ c.utf8.text (omega arith)) c.push_pieces.ensures.read
