-- The arguments say what is done.
use Rattle.std.proofs.Common.{refl}
use Rattle.uca_cli.proofs.command.run_words.Goals as goal

pub returns-in-Check : goal.returns-in-Check
returns-in-Check g c = rw c.in-Check.is (refl, c.check.ensures)

pub returns-in-Keys : goal.returns-in-Keys
returns-in-Keys g c = rw c.in-Keys.is c.keys.ensures

pub returns-in-Sort : goal.returns-in-Sort
returns-in-Sort g c = rw c.in-Sort.is c.sort.ensures

pub returns-in-Compare : goal.returns-in-Compare
returns-in-Compare g c = rw c.in-Compare.is (refl, c.compare.ensures)

pub returns-in-Tailor : goal.returns-in-Tailor
returns-in-Tailor g c = rw c.in-Tailor.is (refl, c.tailor.ensures)

pub returns-in-Audit : goal.returns-in-Audit
returns-in-Audit g c = rw c.in-Audit.is (refl, c.audit.ensures)

pub returns-in-Affected : goal.returns-in-Affected
returns-in-Affected g c = rw c.in-Affected.is c.affected.ensures

pub returns-in-Changes : goal.returns-in-Changes
returns-in-Changes g c = rw c.in-Changes.is (refl, c.changes.ensures)

pub returns-in-AuditChanges : goal.returns-in-AuditChanges
returns-in-AuditChanges g c = rw c.in-AuditChanges.is (refl, c.audit_changes.ensures)

pub returns-in-Rekey : goal.returns-in-Rekey
returns-in-Rekey g c = rw c.in-Rekey.is c.rekey.ensures

pub returns-in-Compact : goal.returns-in-Compact
returns-in-Compact g c = rw c.in-Compact.is c.compact.ensures

pub returns-in-Expand : goal.returns-in-Expand
returns-in-Expand g c = rw c.in-Expand.is c.expand.ensures

pub returns-in-Book : goal.returns-in-Book
returns-in-Book g c = rw c.in-Book.is (refl, c.print_book.ensures)

pub returns-in-Fingerprint : goal.returns-in-Fingerprint
returns-in-Fingerprint g c = rw c.in-Fingerprint.is (refl, c.fingerprint.ensures)
