use Rattle.uca_number_keys.proofs.NumericTexts.{reads_by_value}
use Rattle.uca_number_keys.proofs.laws.numeric_texts_read_by_value.Goals as goal

pub returns : goal.returns
returns c = reads_by_value
