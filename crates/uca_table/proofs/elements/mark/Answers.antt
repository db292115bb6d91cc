-- A must-fail edit turns this goal. With a proof in a file it is rejected at once (docs/GATE.md).
use Rattle.std.proofs.Common.{arith}
use Rattle.std.proofs.lemmas.Grind.{common_steps}
use Rattle.uca_table.specs.inside.ElementSteps.{mark_at}
use Rattle.uca_table.proofs.elements.mark.Goals as goal

pub returns-in-46 : goal.returns-in-46
unfolding mark_at
returns-in-46 c = grind (arith, common_steps)
