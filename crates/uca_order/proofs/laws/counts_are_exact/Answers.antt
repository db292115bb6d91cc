use Rattle.uca_order.proofs.FetchedLemmas.{counts_exact}
use Rattle.uca_order.proofs.laws.counts_are_exact.Goals as goal

pub returns : goal.returns
returns c = counts_exact
