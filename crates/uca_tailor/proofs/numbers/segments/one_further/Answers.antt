-- A must-fail edit turns this goal. With a proof in a file it is rejected at once (docs/GATE.md).
use Rattle.std.proofs.Common.{arith}
use Rattle.std.proofs.lemmas.Grind.{common_steps}
use Rattle.uca_tailor.proofs.numbers.segments.one_further.Goals as goal

pub returns-in-Base-clause-number : goal.returns-in-Base-clause-number
returns-in-Base-clause-number c = grind (arith, common_steps)
