-- Bytes that mean a certificate are rejected only by a stop.
use Rattle.uca_certificates.proofs.WholeLaws.{stops}
use Rattle.uca_certificates.proofs.laws.bytes_with_a_fault_mean_no_certificate.Goals as goal

pub returns : goal.returns
returns c bytes left fault content refuses goes means = goes (stops bytes left fault content refuses means)
