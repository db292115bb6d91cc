-- Certificates as values: how the weights of a base change, as runs for each level.
use Rattle.std.specs.Prelude.{List}
use Rattle.uca_weights.specs.declared.maps.Run.{Run}
use Rattle.uca_weights.specs.PerLevel.{PerLevel, AtEachLevel}
use Rattle.uca_weights.specs.Runs.{AreProperRuns}

-- the runs of each level, in order
abbrev pub CertificateContent : Type 0
CertificateContent = PerLevel (List Run)

-- what is true of every certificate: the runs of each level make a map
abbrev pub IsCertificate : CertificateContent → Type 0
IsCertificate = AtEachLevel AreProperRuns
