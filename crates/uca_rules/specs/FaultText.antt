-- The text of an error: `byte 13: LateTarget`.
use Rattle.std.specs.Prelude.{ℕ, List, ◌++◌, codes}
use Rattle.std.specs.Fmt.{decimal}
use Rattle.uca_rules.specs.declared.faults.RuleFaultKind.{RuleFaultKind}
use Rattle.uca_rules.specs.declared.faults.RuleFaultKind.TheVariants as kinds
use Rattle.uca_rules.specs.declared.faults.RuleFault.{RuleFault}

abbrev pub kind_text : RuleFaultKind → List ℕ
kind_text kinds.Syntax = codes "Syntax"
kind_text kinds.Escape = codes "Escape"
kind_text kinds.BeforeStrength = codes "BeforeStrength"
kind_text kinds.EmptyText = codes "EmptyText"
kind_text kinds.Limit = codes "Limit"
kind_text kinds.DuplicateTarget = codes "DuplicateTarget"
kind_text kinds.LateTarget = codes "LateTarget"
kind_text kinds.Memory = codes "Memory"
kind_text kinds.Utf8 = codes "Utf8"

abbrev pub rule_fault_text : RuleFault → List ℕ
rule_fault_text fault = codes "byte " ++ decimal fault.byte ++ codes ": " ++ kind_text fault.kind
