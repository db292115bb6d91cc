-- What is read of a certificate, or why it is rejected.
use Rattle.std.proofs.Common.{refl}
use Rattle.uca_certificates.specs.Texts as certificates
use Rattle.uca_run_parts.specs.declared.faults.FileFault.TheVariants.{Certificate}
use Rattle.uca_run_parts.specs.declared.faults.RunFault.TheVariants.{File}
use Rattle.uca_run_parts.specs.declared.faults.Role.TheVariants as roles
use Rattle.uca_run_parts.specs.Files.{RefusesCertificate}
use Rattle.uca_run_parts.proofs.ReadFilesLemmas.{file_read, file_rejected}
use Rattle.uca_run_parts.proofs.files.read_certificate_file.Goals as goal

pub returns-in-Ok : goal.returns-in-Ok
returns-in-Ok g c =
    file_read roles.Certificate certificates.Means RefusesCertificate c.args.source.now c.read_certificate.new.source (λ certificate. certificate) c.in-Ok.certificate
    c.in-Ok.ensures.found c.in-Ok.ensures.only c.in-Ok.ensures.failed

pub returns-in-Err : goal.returns-in-Err
returns-in-Err g c =
    file_rejected roles.Certificate certificates.Means RefusesCertificate c.args.source.now c.read_certificate.new.source (λ certificate. certificate)
    (File roles.Certificate (Certificate c.in-Err.fault)) c.in-Err.ensures.only (Certificate c.in-Err.fault, refl, c.in-Err.ensures.fault) c.in-Err.ensures.failed
