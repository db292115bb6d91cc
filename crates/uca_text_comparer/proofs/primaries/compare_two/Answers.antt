use Rattle.uca_comparison.proofs.WalkSteps.{differs_at}
use Rattle.uca_text_comparer.proofs.PrimarySteps.{first_ended, first_decides}
use Rattle.uca_text_comparer.proofs.primaries.compare_two.Goals as goal

pub returns : goal.returns
returns c = λ es fs ls rs f g first second stands.
    first_decides c.args.weighting es fs (record { elements = ls; after_variable = f; passed = c.args.passed_left })
    (record { elements = rs; after_variable = g; passed = c.args.passed_right }) c.in-Differ.order c.count_with.result c.count_with-2.result stands
    (differs_at _ _ _ _ _ _ _ _ c.in-Differ.order (c.first_weight-first.ensures ls f c.args.passed_left first)
    (c.first_weight-second.ensures rs g c.args.passed_right second)
    (first_ended c.args.left ls c.is_none.result first c.is_none.ensures) (first_ended c.args.right rs c.is_none-2.result second c.is_none-2.ensures) c.in-Differ.ensures)
    (c.count_with.ensures ls first) (c.count_with-2.ensures rs second)
