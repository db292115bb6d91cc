-- Accepted tailorings are faithful: each part of the meaning by its own lemma.
use Rattle.uca_tailorings.specs.declared.conditions.Condition.TheVariants.{TailoredIllFormed}
use Rattle.uca_tailorings.specs.Laws.{AcceptedTailoringsAreFaithful}
use Rattle.uca_tailorings.proofs.UntouchedTexts.{untouched_compare, untouched_keys}
use Rattle.uca_tailorings.proofs.Relating.{all_hold, all_hold_shifted}
use Rattle.uca_tailorings.proofs.Nearest.{all_nearest}

pub accepted_are_faithful : AcceptedTailoringsAreFaithful
accepted_are_faithful tailoring is accepted = record {
  well_formed = accepted TailoredIllFormed;
  holds = all_hold tailoring is accepted;
  shifted = all_hold_shifted tailoring is accepted;
  nearest = all_nearest tailoring is accepted;
  untouched = untouched_compare tailoring is accepted;
  keys = untouched_keys tailoring is accepted;
}
