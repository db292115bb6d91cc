use Rattle.std.proofs.Common.{[], ◌∷◌, ◌++◌, ap, sym, ◌∙◌}
use Rattle.std.specs.Str.{chars}
use Rattle.std.specs.String.{string_bytes}
use Rattle.std.proofs.lemmas.Str.{IsUtf8-string_bytes}
use Rattle.uca_key_writer.specs.inside.Pieces.{points_by}
use Rattle.uca_numbers.proofs.Strings.{chars_pushed}
use Rattle.uca_key_writer.proofs.pieces.Piece.push.Goals as goal

pub returns-clause-points : goal.returns-clause-points
returns-clause-points c =
    let text = c.write_out.new.self.text in
    let none = c.in_ok-write_out.ensures.alone in
    let before = ap (λ o. points_by o (chars (string_bytes text))) none in
    ap (λ o. points_by o (chars (string_bytes c.push.new.self))) none
    ∙ chars_pushed _ _ c.args.point (IsUtf8-string_bytes text) (IsUtf8-string_bytes c.push.new.self) c.in_ok-push.ensures.bytes
    ∙ ap (λ l. l ++ c.args.point ∷ []) (sym before ∙ c.in_ok-write_out.ensures.points)
