use Rattle.std.proofs.Common.{ℕ, min, ap, ◌∙◌}
use Rattle.uca_lanes.proofs.PairSteps.{run_marked}
use Rattle.uca_lanes.proofs.pairs.same_pairs.Goals as goal

pub returns-clause-run : goal.returns-clause-run
returns-clause-run c bytes number marked fits =
    run_marked bytes number c.args.marks c.args.from c.args.count c.min.result marked fits (c.min.ensures ∙ ap (λ (n : ℕ). min n c.args.count) c.first_set.ensures)
