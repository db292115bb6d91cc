-- A line that is not UTF-8 has that cause.
use Rattle.std.proofs.Common.{◌≡◌, Some, subst}
use Rattle.std.specs.Str.{IsUtf8}
use Rattle.uca_run_parts.specs.declared.faults.InputKind.TheVariants.{Utf8}
use Rattle.uca_run_parts.specs.Input.{cause_of}
use Rattle.uca_run_parts.proofs.Causes.{not_utf8}
use Rattle.uca_run_parts.proofs.input.InputLines.text.Goals as goal

pub returns-in-Err-clause-fault : goal.returns-in-Err-clause-fault
returns-in-Err-clause-fault g c = λ read_of before h.
    subst (λ s. cause_of read_of before s.line ≡ Some Utf8) c.self.view_is
    (not_utf8 read_of before c.self.inside.line.items h c.self.invariant.1 (subst (λ l. IsUtf8 l → ⊥) c.deref.ensures.value c.in-Err.ensures.cases.0))
