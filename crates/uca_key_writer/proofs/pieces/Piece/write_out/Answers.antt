use Rattle.std.proofs.Common.{◌++◌, ap, sym, ◌∙◌}
use Rattle.std.specs.Char.{encode_utf8}
use Rattle.std.specs.Str.{chars}
use Rattle.std.specs.String.{string_bytes}
use Rattle.std.proofs.lemmas.Str.{IsUtf8-string_bytes}
use Rattle.uca_key_writer.specs.inside.Pieces.{points_by}
use Rattle.uca_plain.proofs.PlainEntries.{chars_alone}
use Rattle.uca_key_writer.proofs.pieces.Piece.write_out.Goals as goal

pub returns-clause-points : goal.returns-clause-points
returns-clause-points c =
    chars_alone _ c.in-Some.known.point (IsUtf8-string_bytes c.push.new.self)
    (c.in_ok-push.ensures.bytes ∙ ap (λ l. l ++ encode_utf8 c.in-Some.known.point) c.clear.ensures.bytes)
    ∙ sym (ap (λ o. points_by o (chars (string_bytes c.args.self.now.text))) c.in-Some.is)
