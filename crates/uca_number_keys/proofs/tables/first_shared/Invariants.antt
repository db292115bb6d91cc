use Rattle.std.proofs.Common.{take}
use Rattle.std.specs.List.{AllByRecursion}
use Rattle.uca_number_keys.proofs.TableChecks.{StandsAlone}
use Rattle.uca_number_keys.proofs.tables.first_shared.Given as goal

abbrev pub invariant-loop-at : goal.invariant-loop-at
invariant-loop-at g l = AllByRecursion StandsAlone (take l.at l.rows)
