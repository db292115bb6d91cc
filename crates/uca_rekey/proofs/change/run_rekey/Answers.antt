-- The whole run, from what its certificate means and what is written of its lines.
use Rattle.std.proofs.Common.{option_map}
use Rattle.uca_certificates.specs.Certificates.{CertificateContent}
use Rattle.uca_images.specs.Moving.{MoverState}
use Rattle.uca_tailorings.specs.Inputs.{maps_of}
use Rattle.uca_run_parts.specs.declared.faults.Role.TheVariants.{Certificate}
use Rattle.uca_run_parts.specs.ReadFiles.{certificate_file}
use Rattle.uca_rekey.specs.ChangedLines.{moves}
use Rattle.uca_rekey.specs.ChangeRun.{key_headers, settings_of}
use Rattle.uca_rekey.specs.inside.ChangeSoFar.{headers_of}
use Rattle.uca_rekey.proofs.ByFile.{file_read, file_rejected, no_memory}
use Rattle.uca_rekey.proofs.change.run_rekey.Goals as goal

pub returns-in-Ok-new : goal.returns-in-Ok-new
returns-in-Ok-new g c =
    let ends = c.run_changes in
    let settings = settings_of c.args.weighting c.args.depth in
    file_read certificate_file Certificate (λ (by : MoverState). moves by.settings.depth by.settings.weighting (maps_of by.certificate)) (λ (it : CertificateContent). record { certificate = it; settings = settings })
    (λ (it : CertificateContent). option_map (key_headers settings) c.args.sums) c.args.certificate.now c.read_certificate_file.new.source c.args.input.now c.args.out.now
    c.in-Ok.certificate c.in-Ok-new.change (headers_of c.key_headers-headers.result) ends.new.input ends.new.out ends.result (rw c.settings_of-settings.ensures at c.in-Ok-new.ensures) (rw c.settings_of-settings.ensures at c.key_headers-headers.ensures)
    c.in-Ok.ensures.read c.in-Ok.ensures.failed ends.ensures.changes
    ends.ensures.nothing_written ends.ensures.no_file ends.ensures.input_failed ends.ensures.out_failed

pub returns-in-Err-new : goal.returns-in-Err-new
returns-in-Err-new g c =
    let settings = settings_of c.args.weighting c.args.depth in
    no_memory certificate_file Certificate (λ (by : MoverState). moves by.settings.depth by.settings.weighting (maps_of by.certificate)) (λ (it : CertificateContent). record { certificate = it; settings = settings })
    (λ (it : CertificateContent). option_map (key_headers settings) c.args.sums) c.args.certificate.now c.read_certificate_file.new.source c.args.input.now c.args.out.now
    c.in-Ok.certificate c.in-Ok.ensures.read c.in-Ok.ensures.failed

pub returns-in-Err : goal.returns-in-Err
returns-in-Err g c =
    let settings = settings_of c.args.weighting c.args.depth in
    file_rejected certificate_file Certificate (λ (by : MoverState). moves by.settings.depth by.settings.weighting (maps_of by.certificate)) (λ (it : CertificateContent). record { certificate = it; settings = settings })
    (λ (it : CertificateContent). option_map (key_headers settings) c.args.sums) c.args.certificate.now c.read_certificate_file.new.source c.args.input.now c.args.out.now
    c.in-Err.fault c.in-Err.ensures.read c.in-Err.ensures.of_files c.in-Err.ensures.failed
