-- A must-fail edit turns this goal. With a proof in a file it is rejected at once (docs/GATE.md).
use Rattle.std.proofs.Common.{rules}
use Rattle.uca_host.proofs.reports.report.Goals as goal

pub returns-in-Write-clause-status : goal.returns-in-Write-clause-status
returns-in-Write-clause-status g c = search rules
