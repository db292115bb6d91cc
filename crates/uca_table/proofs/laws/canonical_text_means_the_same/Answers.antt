use Rattle.uca_table.proofs.CanonicalMeaning.{canonical_means_only}
use Rattle.uca_table.proofs.CanonicalAgain.{meant_is_table}
use Rattle.uca_table.proofs.laws.canonical_text_means_the_same.Goals as goal

pub returns : goal.returns
returns c = λ bytes table means. canonical_means_only table (meant_is_table bytes table means)
