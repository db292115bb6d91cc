use Rattle.uca_tailorings.proofs.AgreeingReadings.{lookups_agree}
use Rattle.uca_tailorings.proofs.laws.faithful_tailorings_keep_untouched_texts.Goals as goal

pub returns : goal.returns
returns c = lookups_agree
