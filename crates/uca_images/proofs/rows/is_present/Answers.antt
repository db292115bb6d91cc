use Rattle.std.proofs.Common.{rules}
use Rattle.uca_images.proofs.rows.is_present.Goals as goal

pub returns-else-is_key : goal.returns-else-is_key
returns-else-is_key g c = search rules
