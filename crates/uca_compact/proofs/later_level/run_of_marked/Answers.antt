use Rattle.std.proofs.Common.{ℕ, ◌-◌, ◌/◌, min, subst, ap, ◌∙◌}
use Rattle.uca_lanes.specs.Pairs.{IsPairRun}
use Rattle.uca_compact.proofs.LevelsPut.{marked_run}
use Rattle.uca_compact.proofs.later_level.run_of_marked.Goals as goal

pub returns-clause-run : goal.returns-clause-run
returns-clause-run c weight marked =
    subst (λ (n : ℕ). IsPairRun c.args.level.now weight c.args.at n c.same_pairs.result)
    (c.min-2.ensures ∙ ap (λ (n : ℕ). min ((n - c.args.at) / 2) c.args.most) c.min.ensures)
    (marked_run c.args.level.now weight c.args.marks c.args.at c.args.most c.min.result c.min-2.result c.same_pairs.result marked c.requires.level
    c.requires.at c.requires.within c.requires.marked c.min.ensures c.min-2.ensures c.same_pairs.ensures.run)
