-- What the audit of a change that was read says of an upgrade.
use Rattle.std.specs.Prelude.{MatchResult}
use Rattle.std.proofs.Common.{◌≡◌, ◌⊎◌, inl, inr, Ok, Err, Result}
use Rattle.uca_weights.specs.declared.Numbers.{Numbers}
use Rattle.uca_weights.specs.declared.Numbers.TheVariants.{AsText, ByValue}
use Rattle.uca_changes.specs.Changes.{Change}
use Rattle.uca_changes.specs.declared.faults.ChangeFault.{ChangeFault}
use Rattle.uca_changes.specs.declared.faults.ChangeFault.TheVariants as change_faults
use Rattle.uca_editions.specs.ChangeRefusals.{IsFirstRefusal}
use Rattle.uca_upgrade.specs.Causes.{IsUpgradeCause, IsUpgradeStop}
use Rattle.uca_upgrade.specs.Files.{MeanChange}
use Rattle.uca_upgrade.specs.declared.faults.UpgradeFault.{UpgradeFault}
use Rattle.uca_upgrade.specs.declared.faults.UpgradeFault.TheVariants.{OldDigits, NewDigits, NotMet, Memory}
use Rattle.uca_upgrade.specs.declared.files.UpgradeFiles.{UpgradeFiles}
use Rattle.uca_upgrade.specs.inside.Read.{IsAuditStop, audit_fault_of}

-- the error of an audit is why there is no upgrade
pub audit_stop : (numbers : Numbers) (change : Change) (fault : ChangeFault) → IsFirstRefusal change fault ⊎ (fault ≡ change_faults.Memory)
    → IsAuditStop numbers change (audit_fault_of fault)
audit_stop numbers change (change_faults.NotMet condition place) (inl refusal) = refusal
audit_stop numbers change (change_faults.NotMet condition place) (inr memory) = let never : ⊥ = cc in absurd never
audit_stop numbers change change_faults.Memory refuses = tt

-- it is one of the reasons that a caller knows
pub stop_of_audit : (numbers : Numbers) (change : Change) (fault : UpgradeFault) → IsAuditStop numbers change fault → IsUpgradeStop numbers change fault
stop_of_audit numbers change (OldDigits row) stop = stop
stop_of_audit numbers change (NewDigits row) stop = stop
stop_of_audit numbers change (NotMet condition place) stop = stop
stop_of_audit numbers change Memory stop = tt
stop_of_audit numbers change _ stop = absurd stop

pub cause_of_audit : (numbers : Numbers) (files : UpgradeFiles) (change : Change) (fault : UpgradeFault) → MeanChange files change
    → IsAuditStop numbers change fault → IsUpgradeCause numbers files fault
cause_of_audit numbers files change (OldDigits row) mean stop = (change, mean, stop)
cause_of_audit numbers files change (NewDigits row) mean stop = (change, mean, stop)
cause_of_audit numbers files change (NotMet condition place) mean stop = (change, mean, stop)
cause_of_audit numbers files change Memory mean stop = (change, mean)
cause_of_audit numbers files change _ mean stop = absurd stop

-- ---- Errors of files alone

pub not_by_value : AsText ≡ ByValue → ⊥
not_by_value same = cc

-- they say the same, however numbers compare
pub cause_of_file : (numbers : Numbers) (files : UpgradeFiles) (fault : UpgradeFault) → IsUpgradeCause AsText files fault → IsUpgradeCause numbers files fault
cause_of_file numbers files (OldDigits row) cause = absurd (not_by_value cause.2.asked)
cause_of_file numbers files (NewDigits row) cause = absurd (not_by_value cause.2.asked)
cause_of_file numbers files _ cause = cause

pub stop_of_file : (numbers : Numbers) (change : Change) (fault : UpgradeFault) → IsUpgradeStop AsText change fault → IsUpgradeStop numbers change fault
stop_of_file numbers change (OldDigits row) stop = absurd (not_by_value stop.asked)
stop_of_file numbers change (NewDigits row) stop = absurd (not_by_value stop.asked)
stop_of_file numbers change _ stop = stop

-- ---- Results

pub each_way : {U F : Type 0} {P : U → Type 0} {Q : F → Type 0} (result : Result U F) (P' : U → Type 0) (Q' : F → Type 0)
    → ((value : U) → P value → P' value) → ((fault : F) → Q fault → Q' fault) → MatchResult result P Q → MatchResult result P' Q'
each_way (Ok value) P' Q' ok err is = ok value is
each_way (Err fault) P' Q' ok err is = err fault is
