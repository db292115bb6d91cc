-- A must-fail edit turns these goals. With a proof in a file they are rejected at once (docs/GATE.md).
use Rattle.std.proofs.Common.{rules}
use Rattle.uca_host.proofs.files.keeping.is_certificate.Goals as goal

pub returns-then-eq : goal.returns-then-eq
returns-then-eq g c = search rules

pub returns-else-eq : goal.returns-else-eq
returns-else-eq g c = search rules
