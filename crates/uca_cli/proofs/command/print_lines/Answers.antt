-- The flag says which run it is.
use Rattle.uca_cli.proofs.command.print_lines.Goals as goal

pub returns-then-changes : goal.returns-then-changes
returns-then-changes g c = rw c.if-changes.true c.run_affected_by_changes.ensures

pub returns-else-changes : goal.returns-else-changes
returns-else-changes g c = rw c.if-changes.false c.run_affected.ensures
