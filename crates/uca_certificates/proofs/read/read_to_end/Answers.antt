-- The runs that were read make a certificate, or a line is rejected.
use Rattle.std.proofs.lemmas.Result.{err_from_is_err_and}
use Rattle.uca_certificates.proofs.WholeLaws.{found_content, fault_content, failed_content, rejected_line}
use Rattle.uca_certificates.proofs.read.read_to_end.Goals as goal

pub returns-clause-found : goal.returns-clause-found
returns-clause-found g c =
    found_content _ _ _ c.into_certificate.result c.in_ok-read_lines.ensures.found c.into_certificate.ensures.certificate c.into_certificate.ensures.maps

pub returns-clause-fault : goal.returns-clause-fault
returns-clause-fault g c =
    fault_content _ _ _ _ c.into_certificate.result c.in_ok-read_lines.ensures.found c.into_certificate.ensures.fault

pub returns-clause-failed : goal.returns-clause-failed
returns-clause-failed g c =
    failed_content _ _ _ c.into_certificate.result c.into_certificate.ensures.fault c.in_ok-read_lines.ensures.failed

pub returns-in_err-read_lines-clause-fault : goal.returns-in_err-read_lines-clause-fault
returns-in_err-read_lines-clause-fault g c =
    let p = err_from_is_err_and c.from_residual.result c.from_residual.ensures.1 in
    let refused = c.in_err-read_lines.field-0.0 in
    rw (p.1, p.2) (rejected_line _ _ (record { line = refused.line; kind = refused.kind }) c.in_err-read_lines.ensures.fault)

pub returns-in_err-read_lines-clause-failed : goal.returns-in_err-read_lines-clause-failed
returns-in_err-read_lines-clause-failed g c =
    let p = err_from_is_err_and c.from_residual.result c.from_residual.ensures.1 in
    rw (p.1, p.2) c.in_err-read_lines.ensures.failed
