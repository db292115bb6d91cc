use Rattle.uca_order.proofs.Equivalence.{equivalent_texts}
use Rattle.uca_order.proofs.laws.canonically_equivalent_texts_have_equal_keys.Goals as goal

pub returns : goal.returns
returns c = equivalent_texts
