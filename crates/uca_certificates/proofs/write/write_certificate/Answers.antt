-- The texts of the three levels are written in turn.
use Rattle.std.proofs.Common.{[], ap, subst, ◌∙◌, arith}
use Rattle.uca_weights.specs.declared.Level.TheVariants.{One, Two, Three}
use Rattle.uca_lines.proofs.BufferedLemmas.{part, written_none, part_fits, part_written, part_fails, all_parts_written, none_buffered, nothing_counted, fault_writes, fault_leaves_some, flush_leaves_some}
use Rattle.uca_certificates.specs.Certificates.{CertificateContent, IsCertificate}
use Rattle.uca_certificates.specs.Texts.{certificate_text}
use Rattle.uca_certificates.specs.inside.Steps.{level_text}
use Rattle.uca_certificates.proofs.WriteLaws.{certificate_parts, certificate_text_is, certificate_fits}
use Rattle.uca_certificates.proofs.write.write_certificate.Goals as goal

pub write_runs-requires : goal.write_runs-requires
write_runs-requires g c =
    let parts = certificate_parts c.args.certificate.now in
    let whole = certificate_text_is c.args.certificate.now in
    let first = ap (level_text One) (c.runs.ensures.value ∙ ap (λ (t : CertificateContent). t.primary) c.certificate.view_is) in
    let none = written_none c.new-buffer.result c.args.out.now in
    let empty = nothing_counted c.new-buffer.result c.new-buffer.ensures.held c.new-buffer.ensures.written in
    let maps = subst IsCertificate c.certificate.view_is c.certificate.invariant.3 in
    part_fits part parts 0 [] _ _ whole first (omega arith) none (certificate_fits c.args.certificate.now c.new-buffer.result empty maps)

pub returns-in_err-write_runs-clause-text : goal.returns-in_err-write_runs-clause-text
returns-in_err-write_runs-clause-text g c =
    let parts = certificate_parts c.args.certificate.now in
    let whole = certificate_text_is c.args.certificate.now in
    let first = ap (level_text One) (c.runs.ensures.value ∙ ap (λ (t : CertificateContent). t.primary) c.certificate.view_is) in
    let none = written_none c.new-buffer.result c.args.out.now in
    fault_writes c.from_residual.result c.new-buffer.ensures.held c.new-buffer.ensures.written
    (part_fails part parts 0 [] _ whole first (omega arith) none c.in_err-write_runs.ensures) c.from_residual.ensures.1

pub returns-in_err-write_runs-clause-not_all : goal.returns-in_err-write_runs-clause-not_all
returns-in_err-write_runs-clause-not_all g c =
    let parts = certificate_parts c.args.certificate.now in
    let whole = certificate_text_is c.args.certificate.now in
    let first = ap (level_text One) (c.runs.ensures.value ∙ ap (λ (t : CertificateContent). t.primary) c.certificate.view_is) in
    let none = written_none c.new-buffer.result c.args.out.now in
    fault_leaves_some c.from_residual.result c.new-buffer.ensures.held c.new-buffer.ensures.written
    (part_fails part parts 0 [] _ whole first (omega arith) none c.in_err-write_runs.ensures) c.from_residual.ensures.1

pub write_runs-requires-2 : goal.write_runs-requires-2
write_runs-requires-2 g c =
    let parts = certificate_parts c.args.certificate.now in
    let whole = certificate_text_is c.args.certificate.now in
    let first = ap (level_text One) (c.runs.ensures.value ∙ ap (λ (t : CertificateContent). t.primary) c.certificate.view_is) in
    let second = ap (level_text Two) (c.runs-2.ensures.value ∙ ap (λ (t : CertificateContent). t.secondary) c.certificate.view_is) in
    let none = written_none c.new-buffer.result c.args.out.now in
    let one = part_written part parts 0 [] first (omega arith) none c.in_ok-write_runs.ensures in
    let empty = nothing_counted c.new-buffer.result c.new-buffer.ensures.held c.new-buffer.ensures.written in
    let maps = subst IsCertificate c.certificate.view_is c.certificate.invariant.3 in
    part_fits part parts 1 [] _ _ whole second (omega arith) one (certificate_fits c.args.certificate.now c.new-buffer.result empty maps)

pub returns-in_err-write_runs-2-clause-text : goal.returns-in_err-write_runs-2-clause-text
returns-in_err-write_runs-2-clause-text g c =
    let parts = certificate_parts c.args.certificate.now in
    let whole = certificate_text_is c.args.certificate.now in
    let first = ap (level_text One) (c.runs.ensures.value ∙ ap (λ (t : CertificateContent). t.primary) c.certificate.view_is) in
    let second = ap (level_text Two) (c.runs-2.ensures.value ∙ ap (λ (t : CertificateContent). t.secondary) c.certificate.view_is) in
    let none = written_none c.new-buffer.result c.args.out.now in
    let one = part_written part parts 0 [] first (omega arith) none c.in_ok-write_runs.ensures in
    fault_writes c.from_residual-in_err-write_runs-2.result c.new-buffer.ensures.held c.new-buffer.ensures.written
    (part_fails part parts 1 [] _ whole second (omega arith) one c.in_err-write_runs-2.ensures) c.from_residual-in_err-write_runs-2.ensures.1

pub returns-in_err-write_runs-2-clause-not_all : goal.returns-in_err-write_runs-2-clause-not_all
returns-in_err-write_runs-2-clause-not_all g c =
    let parts = certificate_parts c.args.certificate.now in
    let whole = certificate_text_is c.args.certificate.now in
    let first = ap (level_text One) (c.runs.ensures.value ∙ ap (λ (t : CertificateContent). t.primary) c.certificate.view_is) in
    let second = ap (level_text Two) (c.runs-2.ensures.value ∙ ap (λ (t : CertificateContent). t.secondary) c.certificate.view_is) in
    let none = written_none c.new-buffer.result c.args.out.now in
    let one = part_written part parts 0 [] first (omega arith) none c.in_ok-write_runs.ensures in
    fault_leaves_some c.from_residual-in_err-write_runs-2.result c.new-buffer.ensures.held c.new-buffer.ensures.written
    (part_fails part parts 1 [] _ whole second (omega arith) one c.in_err-write_runs-2.ensures) c.from_residual-in_err-write_runs-2.ensures.1

pub write_runs-requires-3 : goal.write_runs-requires-3
write_runs-requires-3 g c =
    let parts = certificate_parts c.args.certificate.now in
    let whole = certificate_text_is c.args.certificate.now in
    let first = ap (level_text One) (c.runs.ensures.value ∙ ap (λ (t : CertificateContent). t.primary) c.certificate.view_is) in
    let second = ap (level_text Two) (c.runs-2.ensures.value ∙ ap (λ (t : CertificateContent). t.secondary) c.certificate.view_is) in
    let third = ap (level_text Three) (c.runs-3.ensures.value ∙ ap (λ (t : CertificateContent). t.tertiary) c.certificate.view_is) in
    let none = written_none c.new-buffer.result c.args.out.now in
    let one = part_written part parts 0 [] first (omega arith) none c.in_ok-write_runs.ensures in
    let two = part_written part parts 1 [] second (omega arith) one c.in_ok-write_runs-2.ensures in
    let empty = nothing_counted c.new-buffer.result c.new-buffer.ensures.held c.new-buffer.ensures.written in
    let maps = subst IsCertificate c.certificate.view_is c.certificate.invariant.3 in
    part_fits part parts 2 [] _ _ whole third (omega arith) two (certificate_fits c.args.certificate.now c.new-buffer.result empty maps)

pub returns-in_err-write_runs-3-clause-text : goal.returns-in_err-write_runs-3-clause-text
returns-in_err-write_runs-3-clause-text g c =
    let parts = certificate_parts c.args.certificate.now in
    let whole = certificate_text_is c.args.certificate.now in
    let first = ap (level_text One) (c.runs.ensures.value ∙ ap (λ (t : CertificateContent). t.primary) c.certificate.view_is) in
    let second = ap (level_text Two) (c.runs-2.ensures.value ∙ ap (λ (t : CertificateContent). t.secondary) c.certificate.view_is) in
    let third = ap (level_text Three) (c.runs-3.ensures.value ∙ ap (λ (t : CertificateContent). t.tertiary) c.certificate.view_is) in
    let none = written_none c.new-buffer.result c.args.out.now in
    let one = part_written part parts 0 [] first (omega arith) none c.in_ok-write_runs.ensures in
    let two = part_written part parts 1 [] second (omega arith) one c.in_ok-write_runs-2.ensures in
    fault_writes c.from_residual-in_err-write_runs-3.result c.new-buffer.ensures.held c.new-buffer.ensures.written
    (part_fails part parts 2 [] _ whole third (omega arith) two c.in_err-write_runs-3.ensures) c.from_residual-in_err-write_runs-3.ensures.1

pub returns-in_err-write_runs-3-clause-not_all : goal.returns-in_err-write_runs-3-clause-not_all
returns-in_err-write_runs-3-clause-not_all g c =
    let parts = certificate_parts c.args.certificate.now in
    let whole = certificate_text_is c.args.certificate.now in
    let first = ap (level_text One) (c.runs.ensures.value ∙ ap (λ (t : CertificateContent). t.primary) c.certificate.view_is) in
    let second = ap (level_text Two) (c.runs-2.ensures.value ∙ ap (λ (t : CertificateContent). t.secondary) c.certificate.view_is) in
    let third = ap (level_text Three) (c.runs-3.ensures.value ∙ ap (λ (t : CertificateContent). t.tertiary) c.certificate.view_is) in
    let none = written_none c.new-buffer.result c.args.out.now in
    let one = part_written part parts 0 [] first (omega arith) none c.in_ok-write_runs.ensures in
    let two = part_written part parts 1 [] second (omega arith) one c.in_ok-write_runs-2.ensures in
    fault_leaves_some c.from_residual-in_err-write_runs-3.result c.new-buffer.ensures.held c.new-buffer.ensures.written
    (part_fails part parts 2 [] _ whole third (omega arith) two c.in_err-write_runs-3.ensures) c.from_residual-in_err-write_runs-3.ensures.1

pub returns-clause-text : goal.returns-clause-text
returns-clause-text g c =
    let parts = certificate_parts c.args.certificate.now in
    let whole = certificate_text_is c.args.certificate.now in
    let first = ap (level_text One) (c.runs.ensures.value ∙ ap (λ (t : CertificateContent). t.primary) c.certificate.view_is) in
    let second = ap (level_text Two) (c.runs-2.ensures.value ∙ ap (λ (t : CertificateContent). t.secondary) c.certificate.view_is) in
    let third = ap (level_text Three) (c.runs-3.ensures.value ∙ ap (λ (t : CertificateContent). t.tertiary) c.certificate.view_is) in
    let none = written_none c.new-buffer.result c.args.out.now in
    let one = part_written part parts 0 [] first (omega arith) none c.in_ok-write_runs.ensures in
    let two = part_written part parts 1 [] second (omega arith) one c.in_ok-write_runs-2.ensures in
    let three = part_written part parts 2 [] third (omega arith) two c.in_ok-write_runs-3.ensures in
    let all = all_parts_written part parts 3 _ whole (omega arith) three in
    c.flush.ensures.text c.args.out.now.contents (certificate_text c.args.certificate.now)
    (all.writes c.args.out.now.contents [] (none_buffered c.args.out.now.contents c.new-buffer.result c.new-buffer.ensures.held c.new-buffer.ensures.written))

pub returns-clause-not_all : goal.returns-clause-not_all
returns-clause-not_all g c =
    let parts = certificate_parts c.args.certificate.now in
    let whole = certificate_text_is c.args.certificate.now in
    let first = ap (level_text One) (c.runs.ensures.value ∙ ap (λ (t : CertificateContent). t.primary) c.certificate.view_is) in
    let second = ap (level_text Two) (c.runs-2.ensures.value ∙ ap (λ (t : CertificateContent). t.secondary) c.certificate.view_is) in
    let third = ap (level_text Three) (c.runs-3.ensures.value ∙ ap (λ (t : CertificateContent). t.tertiary) c.certificate.view_is) in
    let none = written_none c.new-buffer.result c.args.out.now in
    let one = part_written part parts 0 [] first (omega arith) none c.in_ok-write_runs.ensures in
    let two = part_written part parts 1 [] second (omega arith) one c.in_ok-write_runs-2.ensures in
    let three = part_written part parts 2 [] third (omega arith) two c.in_ok-write_runs-3.ensures in
    flush_leaves_some c.flush.result c.new-buffer.ensures.held c.new-buffer.ensures.written
    (all_parts_written part parts 3 _ whole (omega arith) three) c.flush.ensures.not_all
