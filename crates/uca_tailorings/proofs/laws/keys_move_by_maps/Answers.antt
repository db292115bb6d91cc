use Rattle.uca_tailorings.proofs.MovedKeys.{keys_move}
use Rattle.uca_tailorings.proofs.laws.keys_move_by_maps.Goals as goal

pub returns : goal.returns
returns c = keys_move
