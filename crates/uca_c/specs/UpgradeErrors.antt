-- What C is told of an upgrade that is not opened.
use Rattle.std.specs.Prelude.{◌≡◌, ℕ}
use Rattle.uca_weights.specs.declared.maps.MapFaultKind.{MapFaultKind}
use Rattle.uca_weights.specs.declared.maps.MapFaultKind.TheVariants as map_kinds
use Rattle.uca_certificates.specs.declared.faults.CertificateFaultKind.{CertificateFaultKind}
use Rattle.uca_certificates.specs.declared.faults.CertificateFaultKind.TheVariants as certificate_kinds
use Rattle.uca_changes.specs.Changes.{number_of}
use Rattle.uca_changes.specs.declared.faults.ChangePlace.{ChangePlace}
use Rattle.uca_changes.specs.declared.faults.ChangePlace.TheVariants.{OldRow, NewRow, CodePoint, Nowhere}
use Rattle.uca_upgrade.specs.declared.faults.UpgradeFault.{UpgradeFault}
use Rattle.uca_upgrade.specs.declared.faults.UpgradeFault.TheVariants.{OldTable, OldData, NewTable, NewData, Changes, Certificate, OldDigits, NewDigits, NotMet, Memory}
use Rattle.uca_c.specs.Numbers.{kind_number}
use Rattle.uca_c.specs.Statuses.{IsErrorStatus}
use Rattle.uca_c.specs.declared.statuses.TheConstants as statuses
use Rattle.uca_c.specs.declared.structs.UpgradeError.{UpgradeError}

-- ---- Numbers

abbrev pub map_kind_number : MapFaultKind → ℕ
map_kind_number map_kinds.Empty = 10
map_kind_number map_kinds.NotRising = 11
map_kind_number map_kinds.OutOfRange = 12
map_kind_number map_kinds.Fixed = 13

-- the kind of an error of a certificate; those of other files have the same numbers
abbrev pub certificate_kind_number : CertificateFaultKind → ℕ
certificate_kind_number certificate_kinds.Line = 1
certificate_kind_number certificate_kinds.Order = 2
certificate_kind_number (certificate_kinds.Map fault) = map_kind_number fault.kind
certificate_kind_number certificate_kinds.Limit = 7
certificate_kind_number certificate_kinds.Read = 8
certificate_kind_number certificate_kinds.Memory = 9

-- what the number of a position counts, and that number
abbrev pub place_kind : ChangePlace → ℕ
place_kind Nowhere = 0
place_kind (OldRow row) = 1
place_kind (NewRow row) = 2
place_kind (CodePoint point) = 3

abbrev pub place_number : ChangePlace → ℕ
place_number Nowhere = 0
place_number (OldRow row) = row
place_number (NewRow row) = row
place_number (CodePoint point) = point

-- ---- Errors

abbrev pub no_error : UpgradeError
no_error = record { file = 0; line = 0; kind = 0; condition = 0; place = 0; number = 0 }

-- in a file, counted from 1: a line and a kind, or a row of a table and 0
abbrev pub error_in : (file line kind : ℕ) → UpgradeError
error_in file line kind = record { file = file; line = line; kind = kind; condition = 0; place = 0; number = 0 }

abbrev pub upgrade_error : UpgradeFault → UpgradeError
upgrade_error (OldTable fault) = error_in 1 fault.line (kind_number fault.kind)
upgrade_error (OldData fault) = error_in 2 fault.line (kind_number fault.kind)
upgrade_error (NewTable fault) = error_in 3 fault.line (kind_number fault.kind)
upgrade_error (NewData fault) = error_in 4 fault.line (kind_number fault.kind)
upgrade_error (Changes fault) = error_in 5 fault.line (kind_number fault.kind)
upgrade_error (Certificate fault) = error_in 6 fault.line (certificate_kind_number fault.kind)
upgrade_error (OldDigits row) = error_in 1 row 0
upgrade_error (NewDigits row) = error_in 3 row 0
upgrade_error (NotMet condition place) =
    record { file = 0; line = 0; kind = 0; condition = number_of condition; place = place_kind place; number = place_number place }
upgrade_error Memory = no_error

abbrev pub upgrade_status : UpgradeFault → ℕ
upgrade_status (OldDigits row) = statuses.DIGITS
upgrade_status (NewDigits row) = statuses.DIGITS
upgrade_status (NotMet condition place) = statuses.NOT_MET
upgrade_status Memory = statuses.MEMORY
upgrade_status _ = statuses.FILE

-- the error and the status say that there is no upgrade, for such a reason
abbrev pub TellsUpgrade : (IsFault : UpgradeFault → Type 0) → UpgradeError → ℕ → Type 0
TellsUpgrade IsFault error status = IsErrorStatus (λ fault. IsFault fault × (error ≡ upgrade_error fault)) upgrade_status status
