use Rattle.std.specs.Str.{chars}
use Rattle.uca_key_writer.proofs.ByValue.{read_as_it_is}
use Rattle.uca_key_writer.proofs.key_memory.is_read_as_it_is.Goals as goal

pub returns-in-ByValue : goal.returns-in-ByValue
returns-in-ByValue c = read_as_it_is c.args.numbers c.has_no_digit.result (chars c.args.text.now) c.in-ByValue.is c.has_no_digit.ensures
