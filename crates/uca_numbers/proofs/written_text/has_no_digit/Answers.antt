use Rattle.std.specs.Str.{chars}
use Rattle.uca_numbers.proofs.Rewriting.{without_digits}
use Rattle.uca_numbers.proofs.written_text.has_no_digit.Goals as goal

pub returns : goal.returns
returns c = without_digits c.has_digit.result (chars c.args.text.now) c.has_digit.ensures
