use Rattle.std.proofs.Common.{arith}
use Rattle.std.proofs.lemmas.Grind.{common_steps}
use Rattle.uca_change_files.proofs.list.text_fault.Goals as goal

pub returns-then-points-gt-MOST_POINTS-clause-fault : goal.returns-then-points-gt-MOST_POINTS-clause-fault
returns-then-points-gt-MOST_POINTS-clause-fault g c = grind (arith, common_steps)

pub returns-then-not-is_above-clause-fault : goal.returns-then-not-is_above-clause-fault
returns-then-not-is_above-clause-fault g c = grind (arith, common_steps)

pub returns-then-texts-ge-MOST_ITEMS-clause-fault : goal.returns-then-texts-ge-MOST_ITEMS-clause-fault
returns-then-texts-ge-MOST_ITEMS-clause-fault g c = grind (arith, common_steps)

pub returns-else-texts-ge-MOST_ITEMS-clause-ok : goal.returns-else-texts-ge-MOST_ITEMS-clause-ok
returns-else-texts-ge-MOST_ITEMS-clause-ok g c = grind (arith, common_steps)
