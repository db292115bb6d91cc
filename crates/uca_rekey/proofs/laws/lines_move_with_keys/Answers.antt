use Rattle.uca_rekey.proofs.MovedLines.{lines_move}
use Rattle.uca_rekey.proofs.laws.lines_move_with_keys.Goals as goal

pub returns : goal.returns
returns c = lines_move
