use Rattle.std.proofs.Common.{[], rules, subst}
use Rattle.uca_elements.specs.Collations.{collation_of}
use Rattle.uca_plain.proofs.Results.{no_result}
use Rattle.uca_key_writer.specs.inside.Readings.{ReadsOn}
use Rattle.uca_key_writer.proofs.StretchSteps.{piece_goes_on, text_ends, read_on, less_to_read}
use Rattle.uca_key_writer.proofs.key_buffer.push_pieces.Goals as goal

pub loop-point-init : goal.loop-point-init
loop-point-init g c = let collation = collation_of g.L.Lookup.content c.args.collator.now in record {
  utf8 = search rules;
  entries = c.requires.entries;
  reads = subst (ReadsOn collation c.args.weighting [] c.args.text.now c.begin_pieces.new.levels c.begin_pieces.new.piece) c.in-Ok-GoesOn.field-0-is
      (c.in-Ok-GoesOn.ensures collation c.requires.entries);
}

pub returns-in-Ok-Ended : goal.returns-in-Ok-Ended
returns-in-Ok-Ended g c = let collation = collation_of g.L.Lookup.content c.args.collator.now in record {
  entries = c.requires.entries;
  read = subst (ReadsOn collation c.args.weighting [] c.args.text.now c.begin_pieces.new.levels c.begin_pieces.new.piece) c.in-Ok-Ended.field-0-is
      (c.in-Ok-Ended.ensures collation c.requires.entries);
}

pub returns-in-Err : goal.returns-in-Err
returns-in-Err g c = record { entries = c.requires.entries; read = tt }

pub loop-point-preserved-then-is_bound : goal.loop-point-preserved-then-is_bound
loop-point-preserved-then-is_bound g c =
    let collation = collation_of g.L.Lookup.content c.args.collator.now in
    let so_far = c.loop-point.invariant.reads in
    let ran = c.in_ok-rest.ensures collation c.args.weighting so_far.more c.loop-point.levels so_far.reads in
    record {
      utf8 = search rules;
      entries = c.get.ensures.entries;
      reads = piece_goes_on collation c.args.weighting c.args.text.now c.loop-point.rest.now c.in-Some.more.now _ c.in-Some.point _ _ c.loop-point.piece _
          so_far c.in-Some.ensures ran;
    }

pub loop-point-smaller-then-is_bound : goal.loop-point-smaller-then-is_bound
loop-point-smaller-then-is_bound g c =
    let collation = collation_of g.L.Lookup.content c.args.collator.now in
    let so_far = c.loop-point.invariant.reads in
    let ran = c.in_ok-rest.ensures collation c.args.weighting so_far.more c.loop-point.levels so_far.reads in
    less_to_read _ _ _ c.in-Some.point ran.more c.in-Some.ensures ran.split

pub loop-point-preserved : goal.loop-point-preserved
loop-point-preserved g c =
    let collation = collation_of g.L.Lookup.content c.args.collator.now in
    let so_far = c.loop-point.invariant.reads in
    record {
      utf8 = search rules;
      entries = c.push_plain.ensures.entries;
      reads = piece_goes_on collation c.args.weighting c.args.text.now c.loop-point.rest.now c.in-Some.more.now _ c.in-Some.point _ _ c.loop-point.piece _
          so_far c.in-Some.ensures
          (read_on collation c.args.weighting so_far.more _ _ c.in-Some.point c.in-Some.more.now _ _ _ c.in_ok-known.ensures.known.0 c.in-Ok-GoesOn-push_plain.field-0-is
          (c.in-Ok-GoesOn-push_plain.ensures.read so_far.more so_far.reads));
    }

pub loop-point-smaller : goal.loop-point-smaller
loop-point-smaller g c =
    let collation = collation_of g.L.Lookup.content c.args.collator.now in
    let so_far = c.loop-point.invariant.reads in
    let ran = read_on collation c.args.weighting so_far.more _ _ c.in-Some.point c.in-Some.more.now _ _ _ c.in_ok-known.ensures.known.0 c.in-Ok-GoesOn-push_plain.field-0-is
    (c.in-Ok-GoesOn-push_plain.ensures.read so_far.more so_far.reads) in
    less_to_read _ _ _ c.in-Some.point ran.more c.in-Some.ensures ran.split

pub returns-in-Ok-Ended-push_plain : goal.returns-in-Ok-Ended-push_plain
returns-in-Ok-Ended-push_plain g c =
    let collation = collation_of g.L.Lookup.content c.args.collator.now in
    let so_far = c.loop-point.invariant.reads in
    record {
      entries = c.push_plain.ensures.entries;
      read = text_ends collation c.args.weighting c.args.text.now c.loop-point.rest.now c.in-Some.more.now c.in-Some.point _ _ c.loop-point.piece
          c.in-Ok-Ended-push_plain.accepted so_far c.in-Some.ensures
          (read_on collation c.args.weighting so_far.more _ _ c.in-Some.point c.in-Some.more.now _ _ _ c.in_ok-known.ensures.known.0 c.in-Ok-Ended-push_plain.field-0-is
          (c.in-Ok-Ended-push_plain.ensures.read so_far.more so_far.reads));
    }

pub returns-in_err-known : goal.returns-in_err-known
returns-in_err-known g c = record { entries = c.get.ensures.entries; read = no_result c.from_residual.result _ c.from_residual.ensures.0 }

pub returns-in_err-rest : goal.returns-in_err-rest
returns-in_err-rest g c = record { entries = c.get.ensures.entries; read = no_result c.from_residual-in_err-rest.result _ c.from_residual-in_err-rest.ensures.0 }

pub returns-in-Err-push_plain : goal.returns-in-Err-push_plain
returns-in-Err-push_plain g c = record { entries = c.push_plain.ensures.entries; read = tt }
