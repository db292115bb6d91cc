-- Kinds of errors that are not those of a reader that failed.
use Rattle.std.proofs.Common.{◌≡◌, ◌⊎◌, inl, inr, false, Result, Ok, Err, IfErr, refl}
use Rattle.uca_values.specs.declared.faults.FaultKind.{FaultKind}
use Rattle.uca_values.specs.declared.faults.FaultKind.TheVariants as kinds
use Rattle.uca_lines.specs.FileStops.{is_read_kind}
use Rattle.uca_lines.proofs.FaultKindLemmas.{not_read}

-- if a failed read is not a cause, each error is of another kind
pub never_read : {X : Type 0} (Cause : FaultKind → Type 0) → (Cause kinds.Read → ⊥) → (r : Result X FaultKind)
    → IfErr r (λ kind. (kind ≡ kinds.Memory) ⊎ Cause kind) → IfErr r (λ kind. is_read_kind kind ≡ false)
never_read Cause none (Ok x) h = tt
never_read Cause none (Err kind) (inl memory) = rw memory refl
never_read Cause none (Err kind) (inr cause) = not_read Cause none kind cause
