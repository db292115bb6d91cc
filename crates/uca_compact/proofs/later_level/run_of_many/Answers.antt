-- All marked weights are this one, or the run ends among them.
use Rattle.std.proofs.Common.{◌-◌, ◌*◌, ◌/◌, length, drop, ap, arith, refl}
use Rattle.std.proofs.lemmas.List.{take_all, length-drop}
use Rattle.uca_compact.proofs.LevelsPut.{short_run, longer_run}
use Rattle.uca_compact.proofs.later_level.run_of_many.Goals as goal

pub returns-then-more-lt-MARKED : goal.returns-then-more-lt-MARKED
returns-then-more-lt-MARKED c =
    let level = c.args.level.now in
    let run = c.loop-weight.run in
    let within = c.loop-weight.invariant.within in
    let rest = take_all (length level - 2 * run) (drop (2 * run) level) (omega (arith, length-drop (2 * run) level)) in
    let long = ap length rest in
    longer_run level _ c.args.weight run _ (length level / 2) c.run_of_marked-more.result c.loop-weight.invariant.are rest
    (short_run _ c.args.weight c.run_of_marked-more.result (c.run_of_marked-more.ensures.run c.args.weight c.marks_of_pairs.ensures) c.if-more-lt-MARKED.true)
    (omega (arith, long, length-drop (2 * run) level, within))

pub loop-weight-preserved : goal.loop-weight-preserved
loop-weight-preserved c =
    let level = c.args.level.now in
    let run = c.loop-weight.run in
    let within = c.loop-weight.invariant.within in
    let rest = take_all (length level - 2 * run) (drop (2 * run) level) (omega (arith, length-drop (2 * run) level)) in
    let long = ap length rest in
    let more = c.run_of_marked-more.ensures.within in
    record {
      within = omega (arith, long, length-drop (2 * run) level, within, more);
      are = (longer_run level _ c.args.weight run _ _ c.run_of_marked-more.result c.loop-weight.invariant.are rest
          (c.run_of_marked-more.ensures.run c.args.weight c.marks_of_pairs.ensures) refl).are;
    }
