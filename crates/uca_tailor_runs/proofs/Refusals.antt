-- What an error of an audit says of a tailoring.
use Rattle.std.specs.Prelude.{◌≡◌, ◌⊎◌}
use Rattle.std.proofs.Common.{inl, inr}
use Rattle.uca_tailorings.specs.Tailorings.{Tailoring}
use Rattle.uca_audit.specs.declared.faults.AuditFault.{AuditFault}
use Rattle.uca_audit.specs.Refusals.{IsFirstRefusal, IsMemory}

-- an error of another number is that of a condition
pub of_condition : (tailoring : Tailoring) (fault : AuditFault) → IsFirstRefusal tailoring fault ⊎ IsMemory fault → ¬ (fault.number ≡ 12) → IsFirstRefusal tailoring fault
of_condition tailoring fault (inl refusal) other = refusal
of_condition tailoring fault (inr memory) other = absurd (other memory.number)
