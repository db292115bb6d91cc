-- A must-fail edit turns this goal. With a proof in a file it is rejected at once (docs/GATE.md).
use Rattle.std.proofs.Common.{rules}
use Rattle.uca_table.proofs.data_file.lines.han_line.Goals as goal

pub returns-in_ok-code_points-2-clause-value : goal.returns-in_ok-code_points-2-clause-value
returns-in_ok-code_points-2-clause-value c = search rules
