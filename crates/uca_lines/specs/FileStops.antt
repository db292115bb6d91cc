-- Which errors of a table file or a data file are stops: reading went no further, and the error is not in the bytes.
use Rattle.std.specs.Prelude.{◌≡◌, ◌⊎◌, Bool, true, false, Result, Ok, Err}
use Rattle.uca_values.specs.declared.faults.FaultKind.{FaultKind}
use Rattle.uca_values.specs.declared.faults.FaultKind.TheVariants as kinds
use Rattle.uca_values.specs.declared.faults.TableFault.{TableFault}

-- a read failed, or an allocation
abbrev pub IsStop : FaultKind → Type 0
IsStop kind = (kind ≡ kinds.Read) ⊎ (kind ≡ kinds.Memory)

abbrev pub is_read_kind : FaultKind → Bool
is_read_kind kinds.Read = true
is_read_kind _ = false

-- whether a read failed
abbrev pub is_read : {X : Type 0} → Result X TableFault → Bool
is_read (Ok x) = false
is_read (Err fault) = is_read_kind fault.kind
