-- Sixteen zeros are the ends of no bytes.
use Rattle.uca_lanes.proofs.Ends.{zeros_agree}
use Rattle.uca_lanes.proofs.narrow_texts.is_narrow.Goals as goal

pub returns : goal.returns
returns c = (λ yes. (c.are_narrow.ensures.0 yes).0, λ agree. c.are_narrow.ensures.1 (agree, zeros_agree))
