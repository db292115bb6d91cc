-- The rows are those of the table, at each key.
use Rattle.std.proofs.Common.{subst}
use Rattle.std.proofs.Math.Path.{fun_ext}
use Rattle.uca_values.specs.Content.{AreRows}
use Rattle.uca_match.specs.NumberedKeys.{rows_at}
use Rattle.uca_key_runs.proofs.collations.rows_of_table.Goals as goal

pub returns-in-Ok-clause-rows : goal.returns-in-Ok-clause-rows
returns-in-Ok-clause-rows g c = fun_ext c.in-Ok.ensures.rows

pub returns-in-Ok-clause-short : goal.returns-in-Ok-clause-short
returns-in-Ok-clause-short g c =
    c.rows_are_short.ensures c.args.table.rows (rows_at c.in-Ok.both.1) (subst (λ t. AreRows t.rows) c.table.view_is c.table.invariant) c.in-Ok.ensures.rows
