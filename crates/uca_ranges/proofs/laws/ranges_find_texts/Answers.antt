use Rattle.uca_ranges.proofs.TextParts.{ranges_find_texts}
use Rattle.uca_ranges.proofs.laws.ranges_find_texts.Goals as goal

pub returns : goal.returns
returns c = ranges_find_texts
