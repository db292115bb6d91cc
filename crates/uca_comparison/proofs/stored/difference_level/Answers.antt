use Rattle.std.proofs.Common.{arith}
use Rattle.std.proofs.lemmas.Grind.{common_steps}
use Rattle.uca_comparison.proofs.StoredSteps.{ends, separators_short_right}
use Rattle.uca_comparison.proofs.stored.difference_level.Goals as goal

pub returns-then-right-lt2 : goal.returns-then-right-lt2
returns-then-right-lt2 c =
    ends _ _ _ _ _ _ c.loop-level.invariant (separators_short_right c.loop-level.left.now c.loop-level.right.now (grind arith))

-- The prover finds these goals by this tactic alone. What it tries before takes long.
pub loop-level-preserved : goal.loop-level-preserved
loop-level-preserved c = grind (arith, common_steps)

pub loop-level-preserved-then-eq : goal.loop-level-preserved-then-eq
loop-level-preserved-then-eq c = grind (arith, common_steps)

pub returns-then-ne : goal.returns-then-ne
returns-then-ne c = grind (arith, common_steps)
