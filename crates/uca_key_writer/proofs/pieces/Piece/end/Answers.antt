use Rattle.std.proofs.Common.{[], ◌∷◌, ap, sym, subst, ◌∙◌}
use Rattle.std.specs.Str.{chars}
use Rattle.std.specs.String.{string_bytes}
use Rattle.uca_text.specs.Texts.{nfd_text}
use Rattle.uca_elements.specs.Collations.{collation_of, elements_of}
use Rattle.uca_key_writer.specs.inside.Pieces.{points_by, IsTrueAlone}
use Rattle.uca_plain.proofs.PlainTexts.{alone_no_long_run}
use Rattle.uca_key_writer.proofs.PieceSteps.{on_any, end_piece}
use Rattle.uca_key_writer.proofs.StretchSteps.{no_chars, piece_is_empty}
use Rattle.uca_key_writer.proofs.pieces.Piece.end.Goals as goal

pub returns-in-Some-clause-read : goal.returns-in-Some-clause-read
returns-in-Some-clause-read g c = λ xs reads.
    let collation = collation_of g.L.Lookup.content c.args.collator.now in
    let point = c.in-Some.known.point in
    let alone = subst (IsTrueAlone collation) c.in-Some.is reads.alone in
    end_piece collation c.args.weighting xs (point ∷ []) _ _ c.args.self.now c.push_known.result reads
    (ap (λ o. points_by o (chars (string_bytes c.args.self.now.text))) c.in-Some.is)
    (c.push_known.ensures collation (elements_of collation (nfd_text collation.properties reads.before)) alone.1 reads.held)
    (on_any c.push_known.result (alone_no_long_run collation.properties.class point))

pub returns-in-None-clause-read : goal.returns-in-None-clause-read
returns-in-None-clause-read g c = λ xs reads.
    piece_is_empty (collation_of g.L.Lookup.content c.args.collator.now) c.args.weighting xs _ c.args.self.now
    (ap (λ o. points_by o (chars (string_bytes c.args.self.now.text))) c.in-None.is
    ∙ no_chars (string_bytes c.args.self.now.text) _ _ c.is_empty.ensures c.if-is_empty.true c.args.self.now.text.bytes.ok.0) reads

pub returns-in-None-2-clause-read : goal.returns-in-None-2-clause-read
returns-in-None-2-clause-read g c = λ xs reads.
    let collation = collation_of g.L.Lookup.content c.args.collator.now in
    end_piece collation c.args.weighting xs (chars c.as_str.result.now) _ _ c.args.self.now c.push_text.result reads
    (ap (λ o. points_by o (chars (string_bytes c.args.self.now.text))) c.in-None.is ∙ ap chars (sym c.as_str.ensures.value))
    (c.push_text.ensures.levels (elements_of collation (nfd_text collation.properties reads.before)) reads.held)
    c.push_text.ensures.runs
