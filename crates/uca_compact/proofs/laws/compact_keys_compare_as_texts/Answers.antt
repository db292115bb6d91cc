use Rattle.uca_compact.proofs.TextOrder.{compare_as_texts}
use Rattle.uca_compact.proofs.laws.compact_keys_compare_as_texts.Goals as goal

pub returns : goal.returns
returns c = compare_as_texts
