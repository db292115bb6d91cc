-- The collator is the same as before.
use Rattle.std.proofs.Common.{subst}
use Rattle.uca_order.specs.Keyings.{bytes_compared}
use Rattle.uca_c.specs.OpenCollators.{keying_at}
use Rattle.uca_c.specs.Results.{IsComparison}
use Rattle.uca_c.proofs.exports.compare_open.Goals as goal

pub returns-in-None-clause-ok : goal.returns-in-None-clause-ok
returns-in-None-clause-ok c is_ok =
    subst (λ it. IsComparison (bytes_compared (keying_at it) c.args.left.now c.args.right.now) c.compare_any.new.comparison.order c.compare_any.new.comparison.level)
    c.in-None.ensures.same (c.compare_any.ensures.ok is_ok)
