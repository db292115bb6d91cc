use Rattle.std.proofs.Common.{◌≡◌, map, take}
use Rattle.uca_plans.specs.Plans.{numbered_row}
use Rattle.uca_tailor.proofs.plan.number_rows.Given as goal

abbrev pub invariant-loop-row : goal.invariant-loop-row
invariant-loop-row g l = l.numbered.items ≡ map (numbered_row l.numbers) (take l.row-index l.rows)
