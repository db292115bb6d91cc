-- A must-fail edit turns this goal. With a proof in a file it is rejected at once (docs/GATE.md).
use Rattle.std.proofs.Common.{rules}
use Rattle.uca_host.proofs.files.keeping.end_file.Goals as goal

pub returns-in-Err : goal.returns-in-Err
returns-in-Err g c = search rules
