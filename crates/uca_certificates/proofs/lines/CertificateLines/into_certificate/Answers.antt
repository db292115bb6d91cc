-- The lowest level whose runs make no map.
use Rattle.std.proofs.Common.{ap, subst, arith}
use Rattle.std.proofs.lemmas.Result.{err_from_is_err_and}
use Rattle.uca_weights.specs.declared.Level.TheVariants.{One, Two, Three}
use Rattle.uca_weights.specs.Runs.{AreProperRuns}
use Rattle.uca_certificates.specs.Certificates.{CertificateContent}
use Rattle.uca_certificates.proofs.MapLaws.{refuses_primary, refuses_secondary, refuses_tertiary}
use Rattle.uca_certificates.proofs.lines.CertificateLines.into_certificate.Goals as goal

pub returns-in_err-primary-clause-fault : goal.returns-in_err-primary-clause-fault
returns-in_err-primary-clause-fault g c =
    let p = err_from_is_err_and c.from_residual.result c.from_residual.ensures.1 in
    let first = ap (λ (s : CertificateContent). s.primary) c.self.view_is in
    let second = ap (λ (s : CertificateContent). s.secondary) c.self.view_is in
    let third = ap (λ (s : CertificateContent). s.tertiary) c.self.view_is in
    rw (p.1, p.2) (refuses_primary c.args.self _ _ _ first (rw (← first, ← second, ← third) (omega arith)) c.in_err-primary.ensures.fault)

pub returns-in_err-secondary-clause-fault : goal.returns-in_err-secondary-clause-fault
returns-in_err-secondary-clause-fault g c =
    let p = err_from_is_err_and c.from_residual-in_err-secondary.result c.from_residual-in_err-secondary.ensures.1 in
    let first = ap (λ (s : CertificateContent). s.primary) c.self.view_is in
    let second = ap (λ (s : CertificateContent). s.secondary) c.self.view_is in
    let third = ap (λ (s : CertificateContent). s.tertiary) c.self.view_is in
    rw (p.1, p.2) (refuses_secondary c.args.self _ _ _ _ (subst (AreProperRuns One) first c.in_ok-primary.ensures.proper) second (rw (← first) (omega arith))
    (rw (← first, ← second, ← third) (omega arith)) c.in_err-secondary.ensures.fault)

pub returns-in-Err-clause-fault : goal.returns-in-Err-clause-fault
returns-in-Err-clause-fault g c =
    let first = ap (λ (s : CertificateContent). s.primary) c.self.view_is in
    let second = ap (λ (s : CertificateContent). s.secondary) c.self.view_is in
    let third = ap (λ (s : CertificateContent). s.tertiary) c.self.view_is in
    refuses_tertiary c.args.self _ _ _ _ (subst (AreProperRuns One) first c.in_ok-primary.ensures.proper)
    (subst (AreProperRuns Two) second c.in_ok-secondary.ensures.proper) third (rw (← first, ← second) (omega arith))
    (rw (← first, ← second, ← third) (omega arith)) c.in-Err.ensures.fault

pub returns-in-Ok-clause-maps : goal.returns-in-Ok-clause-maps
returns-in-Ok-clause-maps g c =
    let first = ap (λ (s : CertificateContent). s.primary) c.self.view_is in
    let second = ap (λ (s : CertificateContent). s.secondary) c.self.view_is in
    let third = ap (λ (s : CertificateContent). s.tertiary) c.self.view_is in
    record {
      primary = subst (AreProperRuns One) first c.in_ok-primary.ensures.proper;
      secondary = subst (AreProperRuns Two) second c.in_ok-secondary.ensures.proper;
      tertiary = subst (AreProperRuns Three) third c.in-Ok.ensures.proper;
    }
