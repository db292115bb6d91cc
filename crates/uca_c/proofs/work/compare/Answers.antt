-- The comparison is by the collator inside.
use Rattle.std.proofs.Common.{subst}
use Rattle.uca_order.specs.Keyings.{bytes_compared}
use Rattle.uca_c.specs.OpenCollators.{OpenState, keying_at}
use Rattle.uca_c.specs.Results.{IsComparison}
use Rattle.uca_c.proofs.work.compare.Goals as goal

pub returns-clause-ok : goal.returns-clause-ok
returns-clause-ok c is_ok =
    subst (λ (s : OpenState). IsComparison (bytes_compared (keying_at s) c.args.left.now c.args.right.now)
    c.compare_texts.new.comparison.order c.compare_texts.new.comparison.level) c.collator.view_is (c.compare_texts.ensures.ok is_ok)
