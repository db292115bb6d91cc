use Rattle.uca_values.specs.Content.{properties_of}
use Rattle.uca_elements.specs.Rows.{rows_of}
use Rattle.uca_number_keys.proofs.TableChecks.{AreOrderedBelow}
use Rattle.uca_number_keys.proofs.tables.wrong_digit.Given as goal

abbrev pub invariant-loop-digit : goal.invariant-loop-digit
invariant-loop-digit g l = AreOrderedBelow (properties_of l.properties) (rows_of l.rows) l.digit l.last
