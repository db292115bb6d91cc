use Rattle.uca_ranges.proofs.TextParts.{texts_have_parts}
use Rattle.uca_ranges.proofs.laws.texts_have_parts.Goals as goal

pub returns : goal.returns
returns c = texts_have_parts
