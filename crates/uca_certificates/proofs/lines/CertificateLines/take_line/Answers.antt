-- A line is read, may come here, and its run is added.
use Rattle.uca_certificates.proofs.TakeLaws.{line_fault, order_fault, denied, added_takes, add_fault}
use Rattle.uca_certificates.proofs.lines.CertificateLines.take_line.Goals as goal

pub returns-in_default-clause-fault : goal.returns-in_default-clause-fault
returns-in_default-clause-fault g c = line_fault c.args.self.now c.args.line.now c.in_default.ensures

pub returns-then-is_passed-clause-fault : goal.returns-then-is_passed-clause-fault
returns-then-is_passed-clause-fault g c =
    order_fault c.args.self.now c.args.line.now c.in-Some.level c.in-Some.run' c.in-Some.ensures (c.is_passed.ensures.0 c.if-is_passed.true)

pub returns-clause-ok : goal.returns-clause-ok
returns-clause-ok g c =
    added_takes c.args.self.now c.add.new.self c.args.line.now c.in-Some.level c.in-Some.run' c.add.result c.in-Some.ensures
    (denied c.is_passed.result c.is_passed.ensures.1 c.if-is_passed.false) c.add.ensures.room c.add.ensures.ok

pub returns-clause-fault : goal.returns-clause-fault
returns-clause-fault g c =
    add_fault c.args.self.now c.args.line.now c.in-Some.level c.in-Some.run' c.add.result c.in-Some.ensures
    (denied c.is_passed.result c.is_passed.ensures.1 c.if-is_passed.false) c.add.ensures.fault
