use Rattle.uca_plain.proofs.PlainTexts.{plain_texts}
use Rattle.uca_plain.proofs.laws.plain_texts_read_by_points.Goals as goal

pub returns : goal.returns
returns c = plain_texts
