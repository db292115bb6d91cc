use Rattle.uca_table.proofs.CanonicalDigits.{element_is}
use Rattle.uca_table.proofs.canonical.elements.element_text.Goals as goal

pub returns : goal.returns
returns c = element_is c.args.element _ _ _ _ c.mark_byte-mark.ensures c.four_digits.ensures c.four_digits-2.ensures c.four_digits-3.ensures
