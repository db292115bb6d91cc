-- By the runs of the levels above.
use Rattle.std.proofs.Common.{not, length, ap, sym, ◌∙◌, arith}
use Rattle.std.proofs.lemmas.List.{nil_from_length}
use borrow.Author.Tests.{eqb-true}
use Rattle.uca_certificates.specs.Certificates.{CertificateContent}
use Rattle.uca_certificates.proofs.PassedLevels.{has_runs, passed_by_two, passed_by_three, passed_over_two}
use Rattle.uca_certificates.proofs.lines.CertificateLines.is_passed.Goals as goal

pub returns-then-not-is_empty : goal.returns-then-not-is_empty
returns-then-not-is_empty g c =
    let content = c.args.self.now in
    let long = ap (λ (b : CertificateContent). length b.secondary) c.self.view_is in
    let yes = ap not c.if-not-is_empty.true in
    passed_by_two content c.args.level _ c.in-One.is
    ((has_runs content.secondary _ c.is_empty.result c.is_empty.ensures (omega (arith, long, c.self.inside.secondary.ok.0))).0 yes) yes

pub returns-else-not-is_empty : goal.returns-else-not-is_empty
returns-else-not-is_empty g c =
    let content = c.args.self.now in
    let second = ap (λ (b : CertificateContent). length b.secondary) c.self.view_is in
    let third = ap (λ (b : CertificateContent). length b.tertiary) c.self.view_is in
    let none = eqb-true _ 0 (sym c.is_empty.ensures ∙ c.if-not-is_empty.false) in
    passed_over_two content c.args.level _ c.in-One.is (nil_from_length content.secondary (omega (arith, none, second, c.self.inside.secondary.ok.0)))
    (has_runs content.tertiary _ c.is_empty-else-not-is_empty.result c.is_empty-else-not-is_empty.ensures
    (omega (arith, third, c.self.inside.tertiary.ok.0)))

pub returns-in-Two : goal.returns-in-Two
returns-in-Two g c =
    let content = c.args.self.now in
    let third = ap (λ (b : CertificateContent). length b.tertiary) c.self.view_is in
    passed_by_three content c.args.level _ c.in-Two.is
    (has_runs content.tertiary _ c.is_empty-in-Two.result c.is_empty-in-Two.ensures (omega (arith, third, c.self.inside.tertiary.ok.0)))
