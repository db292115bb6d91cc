-- Each code point decomposes to such values.
use Rattle.uca_scalars.proofs.NfdScalars.{normal_scalars}
use Rattle.uca_scalars.proofs.normal_forms_have_scalars.Goals as goal

pub returns : goal.returns
returns c = normal_scalars
