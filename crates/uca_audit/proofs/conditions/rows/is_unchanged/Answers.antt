-- A must-fail edit turns this goal. With a proof in a file it is rejected at once (docs/GATE.md).
use Rattle.std.proofs.Common.{rules}
use Rattle.uca_audit.proofs.conditions.rows.is_unchanged.Goals as goal

pub returns-in-Some : goal.returns-in-Some
returns-in-Some g c = search rules
