use Rattle.std.proofs.Common.{◌≡◌, ◌≤◌, length}
use Rattle.uca_number_keys.proofs.TableChecks.{AreFoundFrom}
use Rattle.uca_number_keys.proofs.tables.digit_rows.Given as goal

abbrev pub invariant-loop-at : goal.invariant-loop-at
invariant-loop-at g l = (l.at ≤ length l.rows) × (length l.found ≡ 10) × AreFoundFrom l.rows l.at l.found

abbrev pub decreases-loop-at : goal.decreases-loop-at
decreases-loop-at g l = l.at
