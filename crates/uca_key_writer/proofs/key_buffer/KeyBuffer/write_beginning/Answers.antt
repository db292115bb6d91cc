use Rattle.std.proofs.Common.{refl, ap, subst, arith}
use Rattle.std.specs.Bool.{OnTrue}
use Rattle.std.specs.Str.{chars}
use Rattle.uca_elements.specs.Collations.{collation_of}
use Rattle.uca_key_writer.specs.Buffers.{KeyState}
use Rattle.uca_key_writer.specs.inside.LevelBuffers.{LevelState}
use Rattle.uca_key_writer.specs.inside.Beginnings.{HasBegun}
use Rattle.uca_plain.proofs.Results.{no_result}
use Rattle.uca_key_writer.proofs.PieceSteps.{accepted_if_read}
use Rattle.uca_key_writer.proofs.BeginningSteps.{accepted_if_short, beginning_if_begun, whole_if_begun}
use Rattle.uca_key_writer.proofs.key_buffer.KeyBuffer.write_beginning.Goals as goal

pub push_beginning-requires-clause-empty : goal.push_beginning-requires-clause-empty
push_beginning-requires-clause-empty g c = c.clear.ensures c.self.inside.weighting

pub returns-then-text-gt-SHORT_TEXT : goal.returns-then-text-gt-SHORT_TEXT
returns-then-text-gt-SHORT_TEXT g c = record { entries = c.requires; beginning = tt; accepted = tt; weighting = refl; depth = refl }

pub returns-in-Ok-false : goal.returns-in-Ok-false
returns-in-Ok-false g c = record {
  entries = c.push_beginning.ensures.entries;
  beginning = tt;
  accepted = tt;
  weighting = ap (λ (s : KeyState). s.weighting) c.self.view_is;
  depth = ap (λ (s : KeyState). s.depth) c.self.view_is;
}

pub returns-in-Identical : goal.returns-in-Identical
returns-in-Identical g c = record {
  entries = c.push_beginning.ensures.entries;
  beginning = tt;
  accepted = tt;
  weighting = ap (λ (s : KeyState). s.weighting) c.self.view_is;
  depth = ap (λ (s : KeyState). s.depth) c.self.view_is;
}

pub returns-in-Err : goal.returns-in-Err
returns-in-Err g c = record {
  entries = c.push_beginning.ensures.entries;
  beginning = tt;
  accepted = tt;
  weighting = ap (λ (s : KeyState). s.weighting) c.self.view_is;
  depth = ap (λ (s : KeyState). s.depth) c.self.view_is;
}

pub returns-in_err-join_beginning : goal.returns-in_err-join_beginning
returns-in_err-join_beginning g c = record {
  entries = c.push_beginning.ensures.entries;
  beginning = no_result c.from_residual.result _ c.from_residual.ensures.0;
  accepted = no_result c.from_residual.result _ c.from_residual.ensures.0;
  weighting = ap (λ (s : KeyState). s.weighting) c.self.view_is;
  depth = ap (λ (s : KeyState). s.depth) c.self.view_is;
}

pub returns-in_err-join-in-Weights : goal.returns-in_err-join-in-Weights
returns-in_err-join-in-Weights g c = record {
  entries = c.push_beginning.ensures.entries;
  beginning = no_result c.from_residual-in_err-join-in-Weights.result _ c.from_residual-in_err-join-in-Weights.ensures.0;
  accepted = no_result c.from_residual-in_err-join-in-Weights.result _ c.from_residual-in_err-join-in-Weights.ensures.0;
  weighting = ap (λ (s : KeyState). s.weighting) c.self.view_is;
  depth = ap (λ (s : KeyState). s.depth) c.self.view_is;
}

pub returns-then-has_beginning : goal.returns-then-has_beginning
returns-then-has_beginning g c =
    let collation = collation_of g.L.Lookup.content c.args.collator.now in
    let xs = chars c.args.text.now in
    let levels = c.push_beginning.new.levels in
    let begun = subst (λ accepted. OnTrue accepted (HasBegun collation c.self.inside.weighting xs levels)) c.in-Ok-true.field-0-test c.in-Ok-true.ensures.begun in
    record {
      entries = c.has_short_runs.ensures.entries;
      beginning = beginning_if_begun collation _ c.args.self.now xs _ levels c.has_short_runs.result c.self.view_is begun c.if-has_beginning.ensures
          (ap (λ (l : LevelState). l.key) c.in_ok-join_beginning.ensures);
      accepted = accepted_if_short collation c.args.text.now c.has_short_runs.result c.utf8.text (omega arith) c.has_short_runs.ensures.runs;
      weighting = ap (λ (s : KeyState). s.weighting) c.self.view_is;
      depth = ap (λ (s : KeyState). s.depth) c.self.view_is;
    }

pub returns-in_ok-join-in-Weights : goal.returns-in_ok-join-in-Weights
returns-in_ok-join-in-Weights g c =
    let collation = collation_of g.L.Lookup.content c.args.collator.now in
    let xs = chars c.args.text.now in
    let levels = c.push_beginning.new.levels in
    let begun = subst (λ accepted. OnTrue accepted (HasBegun collation c.self.inside.weighting xs levels)) c.in-Ok-true.field-0-test c.in-Ok-true.ensures.begun in
    record {
      entries = c.push_beginning.ensures.entries;
      beginning = whole_if_begun collation _ c.args.self.now xs _ levels c.self.view_is c.in-Weights.is begun c.if-has_beginning.ensures c.in_ok-join-in-Weights.ensures;
      accepted = accepted_if_read collation c.self.inside.weighting c.args.text.now levels c.utf8.text (omega arith) (begun.whole c.if-has_beginning.ensures);
      weighting = ap (λ (s : KeyState). s.weighting) c.self.view_is;
      depth = ap (λ (s : KeyState). s.depth) c.self.view_is;
    }
