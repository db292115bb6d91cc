use Rattle.std.proofs.Common.{[], ◌∷◌, ◌++◌, subst}
use Rattle.std.specs.Bool.{OnTrue}
use Rattle.uca_elements.specs.Collations.{collation_of}
use Rattle.uca_key_writer.specs.inside.Pieces.{ReadsTo}
use Rattle.uca_plain.proofs.Results.{no_result}
use Rattle.uca_key_writer.proofs.PieceSteps.{next_piece, longer_piece}
use Rattle.uca_key_writer.proofs.pieces.Piece.go_on.Goals as goal

pub returns-in_err-known : goal.returns-in_err-known
returns-in_err-known g c = record { entries = c.get.ensures.entries; read = λ xs reads. no_result c.from_residual.result _ c.from_residual.ensures.0 }

pub returns-in-Ok : goal.returns-in-Ok
returns-in-Ok g c = record {
  entries = c.get.ensures.entries;
  read = λ xs reads.
      longer_piece (collation_of g.L.Lookup.content c.args.collator.now) c.args.weighting xs _ c.args.self.now c.push.new.self (c.args.point ∷ [])
      c.in-Ok.ensures.points c.in-Ok.ensures.alone reads;
}

pub returns-in-Ok-end : goal.returns-in-Ok-end
returns-in-Ok-end g c = record {
  entries = c.end.ensures.entries;
  read = λ xs reads.
      let collation = collation_of g.L.Lookup.content c.args.collator.now in
      let known = c.in_ok-known.ensures.known in
      subst (λ x. OnTrue c.in-Ok-end.accepted (ReadsTo collation c.args.weighting (xs ++ x ∷ []) c.end.new.levels c.begin.new.self)) known.0
      (next_piece collation c.args.weighting xs _ c.begin.new.self c.in_ok-known.known c.in-Ok-end.accepted
      c.begin.ensures.alone c.if-is_bound.ensures known.1 (c.in-Ok-end.ensures.read xs reads));
}
