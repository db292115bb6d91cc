-- The run ends among the marked weights, or it goes on after them.
use Rattle.std.proofs.Common.{◌-◌, ◌/◌, length, drop, ap, arith}
use Rattle.std.proofs.lemmas.List.{take_all, length-drop}
use Rattle.uca_compact.proofs.LevelsPut.{short_run, longer_run}
use Rattle.uca_compact.proofs.later_level.first_run.Goals as goal

pub returns-then-run-lt-MARKED : goal.returns-then-run-lt-MARKED
returns-then-run-lt-MARKED c =
    short_run c.args.level.now c.args.weight c.run_of_marked-run.result (c.run_of_marked-run.ensures.run c.args.weight c.requires.marks) c.if-run-lt-MARKED.true

pub returns : goal.returns
returns c =
    let level = c.args.level.now in
    let within = c.run_of_marked-run.ensures.within in
    let all = c.if-run-lt-MARKED.false in
    let rest = take_all (length level - 64) (drop 64 level) (omega (arith, length-drop 64 level)) in
    let long = ap length rest in
    longer_run level _ c.args.weight 32 _ (length level / 2) c.run_of_many.result
    (λ k below. (c.run_of_marked-run.ensures.run c.args.weight c.requires.marks).are k (omega (arith, below, all))) rest c.run_of_many.ensures
    (omega (arith, long, length-drop 64 level, within, all))
