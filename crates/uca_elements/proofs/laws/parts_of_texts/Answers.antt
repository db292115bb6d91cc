-- Part after part, by the keys that occur in the text.
use Rattle.uca_elements.proofs.Parts.{parts_same, each_part, key_is_part}
use Rattle.uca_elements.proofs.laws.parts_of_texts.Goals as goal

pub returns : goal.returns
returns c = record { each = each_part; same = parts_same; key = key_is_part }
