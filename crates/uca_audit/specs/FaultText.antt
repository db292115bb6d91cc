-- The text of a rejection by an audit: `refused 10 NotFresh relation 1`.
use Rattle.std.specs.Prelude.{ℕ, List, ◌++◌, ◌==◌, if◌then◌else◌, codes, decimal}
use Rattle.uca_audit.specs.declared.faults.AuditFault.{AuditFault}
use Rattle.uca_audit.specs.declared.faults.Place.{Place}
use Rattle.uca_audit.specs.declared.faults.Place.TheVariants as places

-- the name of the condition of a number, that of a failed allocation for any other
abbrev pub name_of : ℕ → List ℕ
name_of number =
    if number == 1 then codes "BaseIllFormed" else
    if number == 2 then codes "TailoredIllFormed" else
    if number == 3 then codes "Header" else
    if number == 4 then codes "Uncovered" else
    if number == 5 then codes "RowChanged" else
    if number == 6 then codes "RowMissing" else
    if number == 7 then codes "RowExtra" else
    if number == 8 then codes "Anchor" else
    if number == 9 then codes "NotPlaced" else
    if number == 10 then codes "NotFresh" else
    if number == 11 then codes "NotNearest" else
    codes "Memory"

abbrev pub place_text : Place → List ℕ
place_text places.Nowhere = codes ""
place_text (places.BaseRow row) = codes " base row " ++ decimal row
place_text (places.TailoredRow row) = codes " tailored row " ++ decimal row
place_text (places.Relation number) = codes " relation " ++ decimal number

abbrev pub audit_fault_text : AuditFault → List ℕ
audit_fault_text fault = codes "refused " ++ (decimal fault.number ++ (codes " " ++ (name_of fault.number ++ place_text fault.place)))
