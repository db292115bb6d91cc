-- A must-fail edit turns this goal. With a proof in a file it is rejected at once (docs/GATE.md).
use Rattle.std.proofs.Common.{rules}
use Rattle.uca_rules.proofs.reader.may_have.Goals as goal

pub returns-in-Reset-Some-clause-yes : goal.returns-in-Reset-Some-clause-yes
returns-in-Reset-Some-clause-yes g c = search rules
