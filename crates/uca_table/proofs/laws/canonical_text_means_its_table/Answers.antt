use Rattle.uca_table.proofs.CanonicalMeaning.{canonical_means_only}
use Rattle.uca_table.proofs.laws.canonical_text_means_its_table.Goals as goal

pub returns : goal.returns
returns c = canonical_means_only
