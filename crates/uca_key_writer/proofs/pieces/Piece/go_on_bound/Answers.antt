use Rattle.std.proofs.Common.{[], ◌∷◌, ◌++◌, ap, sym, ◌∙◌, rules}
use Rattle.std.specs.Str.{chars}
use Rattle.std.specs.String.{string_bytes}
use Rattle.std.proofs.lemmas.Str.{IsUtf8-string_bytes}
use Rattle.uca_key_writer.specs.inside.Pieces.{points_by}
use Rattle.uca_key_writer.proofs.PieceSteps.{chars_extended, longer_piece}
use Rattle.uca_key_writer.proofs.pieces.Piece.go_on_bound.Goals as goal

pub returns : goal.returns
returns g c = λ collation weighting xs levels reads.
    let pushed = c.push.new.self in
    let bound = chars c.split_bound-leaves.result.0.now in
    let none = c.in_ok-push.ensures.alone in
    let first = longer_piece collation weighting xs levels c.args.self.now pushed (c.args.point ∷ []) c.in_ok-push.ensures.points none reads in
    let points = ap (λ o. points_by o (chars (string_bytes c.push_str.new.self))) none
    ∙ chars_extended (string_bytes pushed.text) (string_bytes c.push_str.new.self) c.split_bound-leaves.result.0.now (IsUtf8-string_bytes pushed.text)
    (IsUtf8-string_bytes c.push_str.new.self) (search rules) c.in_ok-push_str.ensures.bytes
    ∙ ap (λ l. l ++ bound) (ap (λ o. points_by o (chars (string_bytes pushed.text))) (sym none)) in
    record {
      more = bound;
      split = c.split_bound-leaves.ensures;
      reads = longer_piece collation weighting (xs ++ c.args.point ∷ []) levels pushed _ bound points none first;
    }
