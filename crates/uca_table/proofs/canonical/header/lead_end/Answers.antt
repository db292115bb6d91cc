use Rattle.uca_table.proofs.CanonicalDigits.{lead_end_is}
use Rattle.uca_table.proofs.canonical.header.lead_end.Goals as goal

pub returns : goal.returns
returns c = lead_end_is c.args.lead _ c.four_digits.ensures
