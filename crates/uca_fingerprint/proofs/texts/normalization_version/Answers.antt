-- The three numbers, as they are written.
use Rattle.std.proofs.Common.{refl}
use Rattle.std.specs.Fmt.{digits}
use Rattle.uca_fingerprint.proofs.texts.normalization_version.Goals as goal

pub returns-clause-edition : goal.returns-clause-edition
unfolding digits
returns-clause-edition c = refl
