use Rattle.std.proofs.Common.{rules, arith, ap, length}
use Rattle.std.specs.Str.{chars}
use Rattle.uca_elements.specs.Collations.{collation_of}
use Rattle.uca_key_writer.proofs.BeginningSteps.{judge_begun, judge_passes, judge_counts, judge_ends, passed_shorter}
use Rattle.uca_key_writer.proofs.beginnings.count_runs.Goals as goal

pub loop-point-init : goal.loop-point-init
loop-point-init g c =
    let collation = collation_of g.L.Lookup.content c.args.collator.now in
    let over = c.pass_over-count.ensures in
    record {
      utf8 = search rules;
      entries = c.requires.entries;
      few = over.count;
      judged = judge_passes collation (chars c.args.text.now) c.args.text.now _ 0 _ over.passed over.count (judge_begun collation c.args.text.now);
    }

pub loop-point-preserved : goal.loop-point-preserved
loop-point-preserved g c =
    let collation = collation_of g.L.Lookup.content c.args.collator.now in
    let all = chars c.args.text.now in
    let more = c.in-Some.more.now in
    let so_far = c.loop-point.invariant in
    let counted = c.in_ok-counted.ensures.counted in
    let over = c.pass_over.ensures in
    record {
      utf8 = search rules;
      entries = c.count_on.ensures.entries;
      few = over.count;
      judged = judge_passes collation all more _ c.in_ok-counted.counted _ over.passed over.count
          (judge_counts collation all c.loop-point.rest.now more c.in-Some.point c.loop-point.count _ counted.0 c.in-Some.ensures counted.1 counted.2
          counted.3 (omega arith) so_far.judged);
    }

pub loop-point-smaller : goal.loop-point-smaller
loop-point-smaller g c =
    omega (arith, passed_shorter c.in-Some.more.now _ _ _ c.pass_over.ensures.passed, ap length c.in-Some.ensures)

pub returns : goal.returns
returns g c =
    let collation = collation_of g.L.Lookup.content c.args.collator.now in
    let so_far = c.loop-point.invariant in
    record {
      entries = so_far.entries;
      runs = judge_ends collation (chars c.args.text.now) c.loop-point.rest.now c.loop-point.count c.in_default.ensures so_far.judged;
    }
