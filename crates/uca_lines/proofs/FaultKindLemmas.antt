-- Which causes are not those of a failed read.
use Rattle.std.proofs.Common.{◌≡◌, false, refl}
use Rattle.uca_values.specs.declared.faults.FaultKind.{FaultKind}
use Rattle.uca_values.specs.declared.faults.FaultKind.TheVariants as kinds
use Rattle.uca_lines.specs.FileStops.{is_read_kind}

-- if a failed read is not a cause, each cause is of another kind
pub not_read : (Cause : FaultKind → Type 0) → (Cause kinds.Read → ⊥) → (kind : FaultKind) → Cause kind → is_read_kind kind ≡ false
not_read Cause none kinds.Read cause = absurd (none cause)
not_read Cause none _ cause = refl
