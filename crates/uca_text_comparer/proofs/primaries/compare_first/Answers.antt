use Rattle.std.specs.Str.{chars}
use Rattle.uca_text_comparer.proofs.PrimarySteps.{pair_compared}
use Rattle.uca_text_comparer.proofs.primaries.compare_first.Goals as goal

pub returns : goal.returns
returns g c = λ collation xs ys entries together.
    pair_compared collation c.args.weighting xs ys (chars c.args.pair.now.left.now) (chars c.args.pair.now.right.now) c.args.pair.now.passed_left
    c.args.pair.now.passed_right c.in_ok-left.left c.in_ok-right.right c.compare_two.result together
    (c.in_ok-left.ensures collation entries) (c.in_ok-right.ensures collation entries) c.compare_two.ensures
