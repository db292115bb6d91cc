-- The row replaces the one with its key, or comes after the others.
use Rattle.uca_plans.proofs.KeyPlaces.{one_more_row}
use Rattle.uca_plans.proofs.laws.one_more_row.Goals as goal

pub returns : goal.returns
returns c = one_more_row
