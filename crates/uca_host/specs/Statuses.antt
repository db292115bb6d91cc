-- The statuses that the program ends with.
use Rattle.std.specs.Prelude.{◌≡◌, ◌⊎◌, ℕ, Bool, true, false, if◌then◌else◌}
use Rattle.clap.specs.declared.error.ErrorKind.{ErrorKind}
use Rattle.clap.specs.declared.error.ErrorKind.TheVariants.{DisplayHelp, DisplayVersion}
use Rattle.clap.specs.Values.{kind_of}
use Rattle.uca_values.specs.declared.faults.FaultKind.{FaultKind}
use Rattle.uca_values.specs.declared.faults.FaultKind.TheVariants as kinds
use Rattle.uca_rules.specs.declared.faults.RuleFaultKind.{RuleFaultKind}
use Rattle.uca_rules.specs.declared.faults.RuleFaultKind.TheVariants as rule_kinds
use Rattle.uca_certificates.specs.declared.faults.CertificateFaultKind.{CertificateFaultKind}
use Rattle.uca_certificates.specs.declared.faults.CertificateFaultKind.TheVariants as certificate_kinds
use Rattle.uca_text.specs.declared.normalize.TextFault.{TextFault}
use Rattle.uca_text.specs.declared.normalize.TextFault.TheVariants as text_fault
use Rattle.uca_run_parts.specs.declared.faults.InputKind.{InputKind}
use Rattle.uca_run_parts.specs.declared.faults.InputKind.TheVariants as input_kind
use Rattle.uca_run_parts.specs.declared.faults.StoredKeyKind.{StoredKeyKind}
use Rattle.uca_run_parts.specs.declared.faults.StoredKeyKind.TheVariants as stored_key
use Rattle.uca_run_parts.specs.declared.faults.FileFault.{FileFault}
use Rattle.uca_run_parts.specs.declared.faults.FileFault.TheVariants.{Lines, Rules, RulesRead, RulesMemory, Certificate}
use Rattle.uca_run_parts.specs.declared.faults.RunFault.{RunFault}
use Rattle.uca_run_parts.specs.declared.faults.RunFault.TheVariants.{File, Digits, Input, StoredKey, Write, Memory, Text, Tailor, Changes, CertificateWrite, Open, SameAs, Words}
use Rattle.uca_changes.specs.declared.faults.ChangeFault.{ChangeFault}
use Rattle.uca_changes.specs.declared.faults.ChangeFault.TheVariants as change_faults
use Rattle.uca_plans.specs.declared.faults.TailorKind.{TailorKind}
use Rattle.uca_plans.specs.declared.faults.TailorKind.TheVariants as planner
use Rattle.uca_words.specs.declared.WordFault.{WordFault}
use Rattle.uca_words.specs.declared.WordFault.TheVariants as words

-- 3 where a read failed, 4 where an allocation failed, and 1 for an error in the bytes
abbrev pub line_status : FaultKind → ℕ
line_status kinds.Read = 3
line_status kinds.Memory = 4
line_status _ = 1

abbrev pub rule_status : RuleFaultKind → ℕ
rule_status rule_kinds.Memory = 4
rule_status _ = 1

abbrev pub certificate_status : CertificateFaultKind → ℕ
certificate_status certificate_kinds.Read = 3
certificate_status certificate_kinds.Memory = 4
certificate_status _ = 1

abbrev pub file_status : FileFault → ℕ
file_status (Lines fault) = line_status fault.kind
file_status (Rules fault) = rule_status fault.kind
file_status RulesRead = 3
file_status RulesMemory = 4
file_status (Certificate fault) = certificate_status fault.kind

abbrev pub input_status : InputKind → ℕ
input_status input_kind.Read = 3
input_status input_kind.Memory = 4
input_status _ = 1

abbrev pub stored_key_status : StoredKeyKind → ℕ
stored_key_status stored_key.Read = 3
stored_key_status stored_key.Memory = 4
stored_key_status _ = 1

abbrev pub text_status : TextFault → ℕ
text_status text_fault.Memory = 4
text_status _ = 1

abbrev pub tailor_status : TailorKind → ℕ
tailor_status planner.Memory = 4
tailor_status _ = 1

abbrev pub change_status : ChangeFault → ℕ
change_status change_faults.Memory = 4
change_status _ = 1

-- whether the text of `clap` is help or the version, which was asked for
abbrev pub is_asked_for : ErrorKind → Bool
is_asked_for DisplayHelp = true
is_asked_for DisplayVersion = true
is_asked_for _ = false

-- 0 if the text was asked for, and 2 if `clap` rejected the arguments
abbrev pub refusal_status : ErrorKind → ℕ
refusal_status kind = if is_asked_for kind then 0 else 2

-- and 4 where there was no memory for the text of `clap`
abbrev pub IsRefusalStatus : ErrorKind → ℕ → Type 0
IsRefusalStatus kind status = (status ≡ refusal_status kind) ⊎ (status ≡ 4)

abbrev pub IsWordStatus : WordFault → ℕ → Type 0
IsWordStatus words.Weighting status = status ≡ 2
IsWordStatus words.Fingerprint status = status ≡ 2
IsWordStatus words.Memory status = status ≡ 4
IsWordStatus (words.Refused error) status = IsRefusalStatus (kind_of error) status

-- the status of an error
abbrev pub IsStatus : RunFault → ℕ → Type 0
IsStatus (File role fault) status = status ≡ file_status fault
IsStatus (Digits row) status = status ≡ 1
IsStatus (Input line kind) status = status ≡ input_status kind
IsStatus (StoredKey line kind) status = status ≡ stored_key_status kind
IsStatus (Write written) status = status ≡ 3
IsStatus Memory status = status ≡ 4
IsStatus (Text right fault) status = status ≡ text_status fault
IsStatus (Tailor fault) status = status ≡ tailor_status fault.kind
IsStatus (Changes fault) status = status ≡ change_status fault
IsStatus (CertificateWrite written) status = status ≡ 3
IsStatus (Open role) status = status ≡ 3
IsStatus (SameAs role) status = status ≡ 2
IsStatus (Words fault) status = IsWordStatus fault status
