use Rattle.std.proofs.Common.{◌≡◌}
use Rattle.std.specs.Str.{chars}
use Rattle.uca_weights.specs.declared.Depth.TheVariants.{Weights}
use Rattle.uca_text.specs.Texts.{nfd_text}
use Rattle.uca_text.specs.Limits.{IsAccepted}
use Rattle.uca_elements.specs.Collations.{collation_of}
use Rattle.uca_key_writer.specs.inside.Pieces.{HasRead}
use Rattle.uca_key_writer.proofs.PieceSteps.{key_if_read, short_if_read}
use Rattle.uca_key_writer.proofs.WriterSteps.{by_flag}
use Rattle.uca_key_writer.proofs.key_buffer.KeyBuffer.write_pieces.Goals as goal

pub returns-in_ok-join-in-Ok-true-clause-key : goal.returns-in_ok-join-in-Ok-true-clause-key
returns-in_ok-join-in-Ok-true-clause-key g c =
    let collation = collation_of g.L.Lookup.content c.args.collator.now in
    let xs = chars c.args.text.now in
    let flag = c.in-Ok-true.field-0 in
    let is = c.in-Ok-true.field-0-test in
    let read = by_flag flag (HasRead collation c.self.inside.weighting xs c.take_pieces.new.levels) is c.in-Ok-true.ensures.read in
    let depth = by_flag flag (c.self.inside.depth ≡ Weights) is c.in-Ok-true.ensures.without_points in
    key_if_read collation _ c.args.self.now xs _ _ c.self.view_is depth read c.in_ok-join-in-Ok-true.ensures

pub returns-in_ok-join-in-Ok-true-clause-short : goal.returns-in_ok-join-in-Ok-true-clause-short
returns-in_ok-join-in-Ok-true-clause-short g c = λ short.
    let collation = collation_of g.L.Lookup.content c.args.collator.now in
    let text = nfd_text collation.properties (chars c.args.text.now) in
    let accepted = by_flag c.in-Ok-true.field-0 (IsAccepted text) c.in-Ok-true.field-0-test c.in-Ok-true.ensures.accepted in
    short_if_read collation c.args.self.now.weighting c.args.self.now.depth text _ short (returns-in_ok-join-in-Ok-true-clause-key g c) accepted
