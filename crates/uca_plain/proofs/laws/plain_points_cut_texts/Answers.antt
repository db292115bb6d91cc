use Rattle.uca_plain.proofs.PlainTexts.{read_before}
use Rattle.uca_plain.proofs.laws.plain_points_cut_texts.Goals as goal

pub returns : goal.returns
returns c = read_before
