-- A line that was found, or is too long, before its LF was found or after; and what stays while more is read.
use Rattle.std.proofs.Common.{◌∷◌, [], refl, ◌+◌, ◌∙◌, take, drop, length, ap, sym, append_assoc, append-nil, arith, subst}
use Rattle.std.proofs.Math.Bool.{or-false}
use Rattle.std.proofs.KnownBytes.{Keeps-refl, Keeps-trans}
use Rattle.std.proofs.lemmas.List.{length-take-le}
use Rattle.uca_lines.specs.Lines.{is_lf, Lacks}
use Rattle.uca_rekey.specs.inside.LinesInPlace.{BeginsLine, left_of}
use Rattle.uca_rekey.proofs.Places.{line_taken, long_line, not_filled, rest_taken}
use Rattle.uca_rekey.proofs.lines.KeyLines.find.Goals as goal

pub returns-then-len-gt-LONGEST_LINE-clause-finds : goal.returns-then-len-gt-LONGEST_LINE-clause-finds
returns-then-len-gt-LONGEST_LINE-clause-finds g c =
    let pending = c.loop-len.self.pending in
    let len = c.in-Some.len in
    let first = subst (λ p. BeginsLine p len) c.waiting.ensures c.in-Some.ensures in
    long_line (left_of c.args.self.now c.args.source.now) pending c.loop-len.source.remaining c.loop-len.invariant.kept
    (take len pending) (10 ∷ drop (len + 1) pending) (first.parts ∙ append_assoc (take len pending) (10 ∷ []) (drop (len + 1) pending)) first.lacks
    (omega (arith, c.if-len-gt-LONGEST_LINE.true, first.within, length-take-le len pending (omega (arith, first.within))))

pub returns-then-seen-gt-LONGEST_LINE-clause-finds : goal.returns-then-seen-gt-LONGEST_LINE-clause-finds
returns-then-seen-gt-LONGEST_LINE-clause-finds g c =
    let pending = c.loop-len.self.pending in
    long_line (left_of c.args.self.now c.args.source.now) pending c.loop-len.source.remaining c.loop-len.invariant.kept
    pending [] (sym (append-nil pending)) (subst (Lacks is_lf) c.waiting.ensures c.in_default.ensures)
    (omega (arith, c.if-seen-gt-LONGEST_LINE.true, ap length c.waiting-seen.ensures))

pub returns-in-Some-clause-finds : goal.returns-in-Some-clause-finds
returns-in-Some-clause-finds g c =
    line_taken (left_of c.args.self.now c.args.source.now) c.loop-len.self.pending c.loop-len.source.remaining c.loop-len.invariant.kept
    c.in-Some.len c.take_line.new.self.line c.take_line.new.self.pending
    (subst (λ p. BeginsLine p c.in-Some.len) c.waiting.ensures c.in-Some.ensures) c.take_line.ensures.line c.take_line.ensures.pending

pub loop-len-init : goal.loop-len-init
loop-len-init g c = record {
  kept = Keeps-refl (left_of c.args.self.now c.args.source.now);
  within = omega arith;
  lacks = tt;
  at_end = c.requires;
  failed = refl;
}

pub loop-len-preserved : goal.loop-len-preserved
loop-len-preserved g c =
    let pending = c.fill.new.self.pending in
    let read = rw c.in-Ok-true.field-0-test at c.in-Ok-true.ensures in
    record {
      kept = Keeps-trans (left_of c.args.self.now c.args.source.now) (left_of c.loop-len.self c.loop-len.source) (left_of c.fill.new.self c.fill.new.source)
          c.loop-len.invariant.kept read.bytes;
      within = omega (arith, read.more, ap length c.waiting-seen.ensures);
      lacks = subst (Lacks is_lf) (sym (ap (λ xs. take (length xs) pending) c.waiting-seen.ensures ∙ read.front))
          (subst (Lacks is_lf) c.waiting.ensures c.in_default.ensures);
      at_end = read.at_end ∙ c.loop-len.invariant.at_end;
      failed = read.failed ∙ or-false _ ∙ c.loop-len.invariant.failed;
    }

pub loop-len-smaller : goal.loop-len-smaller
loop-len-smaller g c =
    let read = rw c.in-Ok-true.field-0-test at c.in-Ok-true.ensures in
    omega (arith, read.more, c.if-seen-gt-LONGEST_LINE.false, ap length c.waiting-seen.ensures)

pub returns-in-Err-clause-finds : goal.returns-in-Err-clause-finds
returns-in-Err-clause-finds g c =
    let read = c.in-Err.ensures in
    not_filled (left_of c.args.self.now c.args.source.now) c.loop-len.self.pending c.loop-len.source.remaining c.loop-len.invariant.kept
    c.fill.new.source.remaining c.fill.new.self.pending read.bytes read.err (subst (Lacks is_lf) c.waiting.ensures c.in_default.ensures)
    c.fill.new.self.line c.in-Err.kind read.fault

pub returns-in-Ok-false-clause-finds : goal.returns-in-Ok-false-clause-finds
returns-in-Ok-false-clause-finds g c =
    let read = rw c.in-Ok-false.field-0-test at c.in-Ok-false.ensures in
    rest_taken (left_of c.args.self.now c.args.source.now) c.loop-len.self.pending c.loop-len.source.remaining c.loop-len.invariant.kept
    c.fill.new.source.remaining c.fill.new.self.pending read.bytes read.more.0 (subst (Lacks is_lf) c.waiting.ensures c.in_default.ensures)
    read.more.1 c.take_rest.new.self.line c.take_rest.new.self.pending c.take_rest.ensures.line c.take_rest.ensures.pending c.take_rest.result c.take_rest.ensures.last
