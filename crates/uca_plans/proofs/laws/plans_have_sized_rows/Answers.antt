-- Each step keeps the sizes, and so do numbers.
use Rattle.uca_plans.proofs.RowSizes.{rows_in}
use Rattle.uca_plans.proofs.laws.plans_have_sized_rows.Goals as goal

pub returns : goal.returns
returns c = rows_in
