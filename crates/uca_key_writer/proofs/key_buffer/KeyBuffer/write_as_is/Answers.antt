use Rattle.std.proofs.Common.{◌<◌, ◌≡◌, ◌∙◌, ◌^◌, length, subst}
use Rattle.std.specs.Str.{chars}
use Rattle.uca_text.specs.Texts.{nfd_text}
use Rattle.uca_text.specs.Limits.{IsAccepted}
use Rattle.uca_text.specs.Faults.{IsCause}
use Rattle.uca_elements.specs.Collations.{collation_of}
use Rattle.uca_key_writer.specs.inside.AsItIs.{key_as_it_is}
use Rattle.uca_plain.proofs.Results.{no_result, fault_is}
use Rattle.uca_key_writer.proofs.WriterSteps.{memory_is_cause, by_flag, key_of_normal}
use Rattle.uca_key_writer.proofs.key_buffer.KeyBuffer.write_as_is.Goals as goal

-- ---- The text is not written piece by piece, since memory ran out

pub returns-in-Err : goal.returns-in-Err
returns-in-Err g c = record {
  entries = c.write_pieces.ensures.entries;
  key = tt;
  accepted = tt;
  fault = tt;
  short = λ short. tt;
  weighting = c.write_pieces.ensures.weighting;
  depth = c.write_pieces.ensures.depth;
}

-- ---- It is written piece by piece

pub returns-in-Ok-true : goal.returns-in-Ok-true
returns-in-Ok-true g c =
    let by = collation_of g.L.Lookup.content c.args.collator.now in
    let text = nfd_text by.properties (chars c.args.text.now) in
    let key = c.write_pieces.new.self.key in
    let accepted = c.in-Ok-true.field-0 in
    let is = c.in-Ok-true.field-0-test in
    record {
      entries = c.write_pieces.ensures.entries;
      key = by_flag accepted (key ≡ key_as_it_is by c.args.self.now.weighting c.args.self.now.depth (chars c.args.text.now)) is c.in-Ok-true.ensures.key;
      accepted = by_flag accepted (IsAccepted text) is c.in-Ok-true.ensures.accepted;
      fault = tt;
      short = λ short. by_flag accepted (length key < 2 ^ 40) is (c.in-Ok-true.ensures.short short);
      weighting = c.write_pieces.ensures.weighting;
      depth = c.write_pieces.ensures.depth;
    }

-- ---- It is rejected

pub returns-in_err-renew-in-Ok-false : goal.returns-in_err-renew-in-Ok-false
returns-in_err-renew-in-Ok-false g c = record {
  entries = c.write_pieces.ensures.entries;
  key = no_result c.from_residual.result _ c.from_residual.ensures.0;
  accepted = no_result c.from_residual.result _ c.from_residual.ensures.0;
  fault = fault_is (IsCause (nfd_text (collation_of g.L.Lookup.content c.args.collator.now).properties (chars c.args.text.now))) c.from_residual.result
      c.in_err-renew-in-Ok-false.field-0.0 c.from_residual.ensures.1 c.in_err-renew-in-Ok-false.ensures.fault;
  short = λ short. no_result c.from_residual.result _ c.from_residual.ensures.0;
  weighting = c.write_pieces.ensures.weighting;
  depth = c.write_pieces.ensures.depth;
}

-- ---- Memory ran out for the key

pub returns-in_err-write_text-in-Ok-false : goal.returns-in_err-write_text-in-Ok-false
returns-in_err-write_text-in-Ok-false g c = record {
  entries = c.write_pieces.ensures.entries;
  key = no_result c.from_residual-in_err-write_text-in-Ok-false.result _ c.from_residual-in_err-write_text-in-Ok-false.ensures.0;
  accepted = no_result c.from_residual-in_err-write_text-in-Ok-false.result _ c.from_residual-in_err-write_text-in-Ok-false.ensures.0;
  fault = memory_is_cause (nfd_text (collation_of g.L.Lookup.content c.args.collator.now).properties (chars c.args.text.now)) c.from_residual-in_err-write_text-in-Ok-false.result
      c.from_residual-in_err-write_text-in-Ok-false.ensures.1;
  short = λ short. no_result c.from_residual-in_err-write_text-in-Ok-false.result _ c.from_residual-in_err-write_text-in-Ok-false.ensures.0;
  weighting = c.write_text.ensures.weighting ∙ c.write_pieces.ensures.weighting;
  depth = c.write_text.ensures.depth ∙ c.write_pieces.ensures.depth;
}

-- ---- The key of the normalized text is written

pub returns-in_ok-write_text-in-Ok-false : goal.returns-in_ok-write_text-in-Ok-false
returns-in_ok-write_text-in-Ok-false g c =
    let by = collation_of g.L.Lookup.content c.args.collator.now in
    record {
      entries = c.write_pieces.ensures.entries;
      key = key_of_normal by c.args.self.now c.write_pieces.new.self (chars c.args.text.now) c.write_text.new.self.key c.renew.new.self
          c.in_ok-renew-in-Ok-false.ensures.found c.write_pieces.ensures.weighting c.write_pieces.ensures.depth c.in_ok-write_text-in-Ok-false.ensures.key;
      accepted = subst IsAccepted c.in_ok-renew-in-Ok-false.ensures.found c.renew.ensures.accepted;
      fault = tt;
      short = λ short. c.in_ok-write_text-in-Ok-false.ensures.short short;
      weighting = c.write_text.ensures.weighting ∙ c.write_pieces.ensures.weighting;
      depth = c.write_text.ensures.depth ∙ c.write_pieces.ensures.depth;
    }
