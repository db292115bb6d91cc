use Rattle.uca_key_runs.proofs.NumberLines.{numbers_order}
use Rattle.uca_key_runs.proofs.laws.numbers_order_lines.Goals as goal

pub returns : goal.returns
returns c = numbers_order c.numbers_order_texts.ensures c.numeric_texts_read_by_value.ensures
