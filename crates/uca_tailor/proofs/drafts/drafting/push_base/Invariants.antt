-- The rows so far come after those that were there.
use Rattle.std.proofs.Common.{◌≡◌, ◌++◌, map, take}
use Rattle.uca_plans.specs.Drafts.{row_as_draft}
use Rattle.uca_tailor.proofs.drafts.drafting.push_base.Given as goal

abbrev pub invariant-loop-row : goal.invariant-loop-row
invariant-loop-row g l = l.rows.items ≡ l.initial.rows.items ++ map row_as_draft (take l.row-index l.base)
