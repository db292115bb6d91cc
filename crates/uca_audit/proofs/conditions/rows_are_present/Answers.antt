-- A must-fail edit turns this goal. With a proof in a file it is rejected at once (docs/GATE.md).
use Rattle.std.proofs.Common.{rules}
use Rattle.uca_audit.proofs.conditions.rows_are_present.Goals as goal

pub returns-in-Some-first_missing_target : goal.returns-in-Some-first_missing_target
returns-in-Some-first_missing_target g c = search rules
