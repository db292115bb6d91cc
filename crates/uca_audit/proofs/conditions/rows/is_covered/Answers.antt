-- A must-fail edit turns this goal. With a proof in a file it is rejected at once (docs/GATE.md).
use Rattle.std.proofs.Common.{rules}
use Rattle.uca_audit.proofs.conditions.rows.is_covered.Goals as goal

pub returns-then-is_some-2 : goal.returns-then-is_some-2
returns-then-is_some-2 g c = search rules
