-- Why one of two texts is rejected.
use Rattle.uca_text.specs.Texts.{NfdText}
use Rattle.uca_text.specs.Limits.{IsAccepted}
use Rattle.uca_text.specs.Faults.{IsCause}
use Rattle.uca_text_comparer.specs.declared.faults.PairFault.{PairFault}
use Rattle.uca_text_comparer.specs.declared.faults.PairFault.TheVariants.{Left, Right}

-- the left text has this cause, or it is accepted and the right one has
abbrev pub IsPairCause : NfdText → NfdText → PairFault → Type 0
IsPairCause left right (Left fault) = IsCause left fault
IsPairCause left right (Right fault) = IsAccepted left × IsCause right fault
