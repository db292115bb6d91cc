use Rattle.std.proofs.Common.{◌≡◌, ◌<◌, map, get_or, rules, arith}
use Rattle.std.proofs.lemmas.List.{length-map}
use Rattle.std.specs.Char.{IsScalar}
use Rattle.uca_values.specs.Ranges.{class_in}
use Rattle.uca_text.proofs.Runs.{nothing_counted, after_starter, after_non_starter, first_long_run, no_long_run, class_at, classes_more, all_classes, scalars_more}
use Rattle.uca_text.proofs.Runs.{all_scalars}
use Rattle.uca_text.proofs.normalize.classify.Goals as goal
use Rattle.uca_text.proofs.normalize.classify.Goals.{then-class-eq0, else-class-eq0+then-run-lt-LONGEST_RUN}

pub returns-else-run-lt-LONGEST_RUN-clause-fault :
    goal.returns-else-run-lt-LONGEST_RUN-clause-fault
returns-else-run-lt-LONGEST_RUN-clause-fault g c =
    let f = class_in c.args.properties.now.classes in
    let points = c.args.points.now in
    let here = c.loop-place.place in
    let same : get_or (map f points) here 0 ≡ c.class-class.result =
    class_at f points here c.index-points-place.result c.class-class.result c.loop-place-test.true c.index-points-place.is c.class-class.ensures in
    let non_starter : 0 < get_or (map f points) here 0 = rw same (omega (arith, c.if-class-eq0.false)) in (
      c.requires,
      first_long_run (map f points) here c.loop-place.run c.loop-place.invariant.counted non_starter c.if-run-lt-LONGEST_RUN.false
          (rw length-map c.loop-place-test.true),
    )

pub loop-place-preserved : goal.loop-place-preserved
loop-place-preserved g c =
    let f = class_in c.args.properties.now.classes in
    let points = c.args.points.now in
    let here = c.loop-place.place in
    let counted = c.loop-place.invariant.counted in
    let same : get_or (map f points) here 0 ≡ c.class-class.result =
    class_at f points here c.index-points-place.result c.class-class.result c.loop-place-test.true c.index-points-place.is c.class-class.ensures in
    let scalar : IsScalar c.index-points-place.result = search rules in
    record {
      items = classes_more f points c.loop-place.classes.items c.push.new.self.items here c.index-points-place.result c.class-class.result
          c.loop-place.invariant.items c.in_ok-push.ensures.items c.loop-place-test.true c.index-points-place.is c.class-class.ensures;
      counted = elim c.if-class-eq0.branch [
        | then-class-eq0 w ↦ rw w.run-is (after_starter (map f points) here c.loop-place.run counted (rw same w.if-class-eq0.true))
        | else-class-eq0+then-run-lt-LONGEST_RUN w ↦
            rw w.run-is (after_non_starter (map f points) here c.loop-place.run counted (rw same (omega (arith, w.if-class-eq0.false)))
            w.if-run-lt-LONGEST_RUN.true)
      ];
      scalars = scalars_more points here c.index-points-place.result c.loop-place.invariant.scalars c.loop-place-test.true c.index-points-place.is scalar;
    }

pub loop-place-init : goal.loop-place-init
loop-place-init g c = record {
  items = search rules;
  counted = nothing_counted _;
  scalars = search rules;
}

pub returns-clause-found : goal.returns-clause-found
returns-clause-found g c =
    all_classes (class_in c.args.properties.now.classes) c.args.points.now c.loop-place.classes.items c.loop-place.place
    c.loop-place.invariant.items c.loop-place-test.false

pub returns-clause-short_runs : goal.returns-clause-short_runs
returns-clause-short_runs g c =
    let f = class_in c.args.properties.now.classes in
    let all : c.loop-place.classes.items ≡ map f c.args.points.now =
    all_classes f c.args.points.now c.loop-place.classes.items c.loop-place.place c.loop-place.invariant.items c.loop-place-test.false in
    rw all (no_long_run (map f c.args.points.now) c.loop-place.place c.loop-place.run c.loop-place.invariant.counted
    (rw length-map c.loop-place-test.false))

pub returns-clause-scalars : goal.returns-clause-scalars
returns-clause-scalars g c = all_scalars c.args.points.now c.loop-place.place c.loop-place.invariant.scalars c.loop-place-test.false
