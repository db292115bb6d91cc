-- A must-fail edit turns this goal. With a proof in a file it is rejected at once (docs/GATE.md).
use Rattle.std.proofs.Common.{rules}
use Rattle.uca_audit.proofs.conditions.weights.is_below_implicit.Goals as goal

pub returns-in-One : goal.returns-in-One
returns-in-One c = search rules
