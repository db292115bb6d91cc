-- The text of an error: its line on standard error, without the LF.
use Rattle.std.specs.Prelude.{ℕ, List, [], ◌++◌, Bool, codes, decimal, nat_eq, if◌then◌else◌}
use Rattle.uca_values.specs.FaultText.{table_fault_text}
use Rattle.uca_rules.specs.FaultText.{rule_fault_text}
use Rattle.uca_certificates.specs.FaultText.{certificate_fault_text}
use Rattle.uca_text.specs.FaultText.{text_fault_text}
use Rattle.uca_plans.specs.declared.faults.TailorFault.{TailorFault}
use Rattle.uca_plans.specs.declared.faults.TailorKind.{TailorKind}
use Rattle.uca_plans.specs.declared.faults.TailorKind.TheVariants as planner
use Rattle.uca_plans.specs.FaultText.{tailor_fault_text}
use Rattle.uca_words.specs.declared.WordFault.{WordFault}
use Rattle.uca_words.specs.declared.WordFault.TheVariants as words
use Rattle.uca_run_parts.specs.declared.faults.InputKind.{InputKind}
use Rattle.uca_run_parts.specs.declared.faults.InputKind.TheVariants as input_kind
use Rattle.uca_run_parts.specs.declared.faults.StoredKeyKind.{StoredKeyKind}
use Rattle.uca_run_parts.specs.declared.faults.StoredKeyKind.TheVariants as stored_key
use Rattle.uca_run_parts.specs.declared.faults.FileFault.{FileFault}
use Rattle.uca_run_parts.specs.declared.faults.FileFault.TheVariants.{Lines, Rules, RulesRead, RulesMemory, Certificate}
use Rattle.uca_run_parts.specs.declared.faults.RunFault.{RunFault}
use Rattle.uca_run_parts.specs.declared.faults.RunFault.TheVariants.{File, Digits, Input, StoredKey, Write, Memory, Text, Tailor, Changes, CertificateWrite, Open, SameAs, Words}
use Rattle.uca_run_parts.specs.ChangeFaultText.{change_fault_text}
use Rattle.uca_run_parts.specs.RoleText.{role_text}

abbrev pub input_kind_text : InputKind → List ℕ
input_kind_text input_kind.Utf8 = codes "Utf8"
input_kind_text input_kind.TooLong = codes "TooLong"
input_kind_text (input_kind.LongRun place) = codes "LongRun at " ++ decimal place
input_kind_text input_kind.Read = codes "Read"
input_kind_text input_kind.Limit = codes "Limit"
input_kind_text input_kind.Memory = codes "Memory"

abbrev pub stored_key_text : StoredKeyKind → List ℕ
stored_key_text stored_key.NoKey = codes "NoKey"
stored_key_text stored_key.NoImage = codes "NoImage"
stored_key_text stored_key.OtherKey = codes "OtherKey"
stored_key_text stored_key.NoCompactKey = codes "NoCompactKey"
stored_key_text stored_key.Header = codes "Header"
stored_key_text stored_key.TooLong = codes "TooLong"
stored_key_text stored_key.Read = codes "Read"
stored_key_text stored_key.Memory = codes "Memory"

-- where a file of this name is rejected, and why
abbrev pub file_fault_text : List ℕ → FileFault → List ℕ
file_fault_text name (Lines fault) = name ++ codes " " ++ table_fault_text fault
file_fault_text name (Rules fault) = name ++ codes " " ++ rule_fault_text fault
file_fault_text name RulesRead = name ++ codes ": Read"
file_fault_text name RulesMemory = name ++ codes ": Memory"
file_fault_text name (Certificate fault) = name ++ codes " " ++ certificate_fault_text fault

-- by which row of a table numbers have no order, if by one
abbrev pub digits_text : ℕ → List ℕ
digits_text row = if nat_eq row 0 then codes "table: Digits" else codes "table row " ++ decimal row ++ codes ": Digits"

abbrev pub side_text : Bool → List ℕ
side_text right = if right then codes "right" else codes "left"

-- of the text of `clap` nothing is known
abbrev pub word_fault_text : WordFault → List ℕ
word_fault_text words.Weighting = codes "weighting: unknown"
word_fault_text words.Fingerprint = codes "fingerprint: unknown"
word_fault_text words.Memory = codes "memory"
word_fault_text (words.Refused error) = []

-- why there is no plan, with the relation that has the error, if one has
abbrev pub tailor_text : TailorFault → List ℕ
tailor_text fault = line_by fault.kind
  where
    line_by : TailorKind → List ℕ
    line_by planner.Memory = codes "memory"
    line_by _ = (if nat_eq fault.relation 0 then codes "tailor: " else codes "tailor ") ++ tailor_fault_text fault

-- the line of an error
abbrev pub fault_text : RunFault → List ℕ
fault_text (File role fault) = file_fault_text (role_text role) fault
fault_text (Digits row) = digits_text row
fault_text (Input line kind) = codes "input line " ++ decimal line ++ codes ": " ++ input_kind_text kind
fault_text (StoredKey line kind) = codes "input line " ++ decimal line ++ codes ": " ++ stored_key_text kind
fault_text (Write written) = codes "output: Write"
fault_text Memory = codes "memory"
fault_text (Text right fault) = side_text right ++ codes ": " ++ text_fault_text fault
fault_text (Tailor fault) = tailor_text fault
fault_text (Changes fault) = codes "changes: " ++ change_fault_text fault
fault_text (CertificateWrite written) = codes "certificate: Write"
fault_text (Open role) = role_text role ++ codes ": Open"
fault_text (SameAs role) = codes "certificate: SameAs " ++ role_text role
fault_text (Words fault) = word_fault_text fault
