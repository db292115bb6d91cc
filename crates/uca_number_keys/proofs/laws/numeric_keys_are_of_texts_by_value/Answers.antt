use Rattle.uca_number_keys.proofs.NumericTexts.{keys_by_value}
use Rattle.uca_number_keys.proofs.laws.numeric_keys_are_of_texts_by_value.Goals as goal

pub returns : goal.returns
returns c = keys_by_value
