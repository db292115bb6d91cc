-- The text of an error of a change: `RowChanged old row 3`, `SettingChanged`.
use Rattle.std.specs.Prelude.{List, ℕ, [], ◌++◌, codes, decimal}
use Rattle.uca_table.specs.Canonical.{point_text}
use Rattle.uca_changes.specs.Changes.{number_of}
use Rattle.uca_changes.specs.declared.conditions.ChangeCondition.{ChangeCondition}
use Rattle.uca_changes.specs.declared.conditions.ChangeCondition.TheVariants.{OldIllFormed, NewIllFormed, RangeChanged, Uncovered, RowChanged, RowMissing, RowExtra, PointChanged, SettingChanged}
use Rattle.uca_changes.specs.declared.faults.ChangeFault.{ChangeFault}
use Rattle.uca_changes.specs.declared.faults.ChangeFault.TheVariants.{NotMet, Memory}
use Rattle.uca_changes.specs.declared.faults.ChangePlace.{ChangePlace}
use Rattle.uca_changes.specs.declared.faults.ChangePlace.TheVariants.{OldRow, NewRow, CodePoint, Nowhere}

abbrev pub condition_text : ChangeCondition → List ℕ
condition_text OldIllFormed = codes "OldIllFormed"
condition_text NewIllFormed = codes "NewIllFormed"
condition_text RangeChanged = codes "RangeChanged"
condition_text Uncovered = codes "Uncovered"
condition_text RowChanged = codes "RowChanged"
condition_text RowMissing = codes "RowMissing"
condition_text RowExtra = codes "RowExtra"
condition_text PointChanged = codes "PointChanged"
condition_text SettingChanged = codes "SettingChanged"

abbrev pub change_place_text : ChangePlace → List ℕ
change_place_text (OldRow row) = codes " old row " ++ decimal row
change_place_text (NewRow row) = codes " new row " ++ decimal row
change_place_text (CodePoint point) = codes " code point " ++ point_text point
change_place_text Nowhere = []

abbrev pub change_fault_text : ChangeFault → List ℕ
change_fault_text (NotMet condition place) = condition_text condition ++ change_place_text place
change_fault_text Memory = codes "out of memory"

-- the verdict of an audit that rejects: `refused 5 RowChanged old row 3`
abbrev pub change_verdict_text : ChangeFault → List ℕ
change_verdict_text (NotMet condition place) = codes "refused " ++ (decimal (number_of condition) ++ (codes " " ++ change_fault_text (NotMet condition place)))
change_verdict_text Memory = change_fault_text Memory
