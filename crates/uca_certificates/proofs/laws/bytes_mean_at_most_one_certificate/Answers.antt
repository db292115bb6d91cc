-- Bytes are the text of one certificate at most.
use Rattle.uca_certificates.proofs.WholeLaws.{means_same}
use Rattle.uca_certificates.proofs.laws.bytes_mean_at_most_one_certificate.Goals as goal

pub returns : goal.returns
returns c = means_same
