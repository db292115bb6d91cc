use Rattle.uca_number_keys.proofs.NumericTexts.{same_limits}
use Rattle.uca_number_keys.proofs.laws.equivalent_texts_have_the_same_limits.Goals as goal

pub returns : goal.returns
returns c = same_limits
