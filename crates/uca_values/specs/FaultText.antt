-- The text of an error of a table file or a data file.
use Rattle.std.specs.Prelude.{ℕ, List, ◌++◌, codes, decimal}
use Rattle.uca_values.specs.declared.faults.FaultKind.{FaultKind}
use Rattle.uca_values.specs.declared.faults.FaultKind.TheVariants as kinds
use Rattle.uca_values.specs.declared.faults.TableFault.{TableFault}

abbrev pub kind_text : FaultKind → List ℕ
kind_text kinds.Line = codes "Line"
kind_text kinds.Order = codes "Order"
kind_text kinds.CodePoint = codes "CodePoint"
kind_text kinds.Weight = codes "Weight"
kind_text kinds.DuplicateKey = codes "DuplicateKey"
kind_text kinds.Range = codes "Range"
kind_text kinds.Limit = codes "Limit"
kind_text kinds.Read = codes "Read"
kind_text kinds.Memory = codes "Memory"

-- the line, counted from 1, and the kind
abbrev pub table_fault_text : TableFault → List ℕ
table_fault_text fault = codes "line " ++ (decimal fault.line ++ (codes ": " ++ kind_text fault.kind))
