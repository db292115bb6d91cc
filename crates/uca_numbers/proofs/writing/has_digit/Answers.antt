use Rattle.std.proofs.Common.{ap, ◌∙◌}
use Rattle.uca_numbers.specs.Texts.{has_digit}
use Rattle.uca_numbers.proofs.Bytes.{digits_of_bytes}
use Rattle.uca_numbers.proofs.writing.has_digit.Goals as goal

pub returns : goal.returns
returns c = c.has_digit_byte.ensures ∙ ap has_digit c.as_bytes.ensures.value ∙ digits_of_bytes c.args.text.now c.utf8.text
