use Rattle.std.proofs.Common.{rules}
use Rattle.uca_images.proofs.rows.is_image.Goals as goal

pub returns-then-eq-3 : goal.returns-then-eq-3
returns-then-eq-3 g c = search rules
