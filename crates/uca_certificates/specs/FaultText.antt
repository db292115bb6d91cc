-- The text of an error of a certificate.
use Rattle.std.specs.Prelude.{ℕ, List, ◌++◌, codes, decimal}
use Rattle.uca_weights.specs.MapFaultText.{map_kind_text}
use Rattle.uca_certificates.specs.declared.faults.CertificateFault.{CertificateFault}
use Rattle.uca_certificates.specs.declared.faults.CertificateFaultKind.{CertificateFaultKind}
use Rattle.uca_certificates.specs.declared.faults.CertificateFaultKind.TheVariants as kinds

abbrev pub kind_text : CertificateFaultKind → List ℕ
kind_text kinds.Line = codes "Line"
kind_text kinds.Order = codes "Order"
kind_text (kinds.Map fault) = codes "Map " ++ map_kind_text fault.kind
kind_text kinds.Limit = codes "Limit"
kind_text kinds.Read = codes "Read"
kind_text kinds.Memory = codes "Memory"

-- the line, counted from 1, and the kind
abbrev pub certificate_fault_text : CertificateFault → List ℕ
certificate_fault_text fault = codes "line " ++ (decimal fault.line ++ (codes ": " ++ kind_text fault.kind))
