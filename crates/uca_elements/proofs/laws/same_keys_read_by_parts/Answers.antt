-- The two readings are those of one list of parts.
use Rattle.uca_elements.proofs.RelatedReading.{same_parts}
use Rattle.uca_elements.proofs.laws.same_keys_read_by_parts.Goals as goal

pub returns : goal.returns
returns c = same_parts
