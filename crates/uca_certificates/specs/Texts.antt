-- Certificates as text: one line a run, level after level. A certificate has one spelling, so what bytes mean is an equation with
-- its text; the lines of a file matter only for its errors.
use Rattle.std.specs.Prelude.{◌≡◌, ◌≢◌, ◌⊎◌, ℕ, suc, ◌+◌, ◌<◌, ◌≤◌, List, [], ◌∷◌, ◌++◌, Bool, true, false, Option, map, length, Result, Ok, Err}
use Rattle.std.specs.List.{flat_map, AllByRecursion}
use Rattle.uca_weights.specs.declared.Level.{Level}
use Rattle.uca_weights.specs.declared.Level.TheVariants.{One, Two, Three}
use Rattle.uca_weights.specs.declared.maps.Run.{Run}
use Rattle.uca_weights.specs.declared.maps.MapFault.{MapFault}
use Rattle.uca_weights.specs.declared.maps.MapFaultKind.{MapFaultKind}
use Rattle.uca_weights.specs.declared.maps.MapFaultKind.TheVariants as map_kinds
use Rattle.uca_weights.specs.Levels.{level_number}
use Rattle.uca_weights.specs.Runs.{AreProperRuns, IsMapFault}
use Rattle.uca_lines.specs.Lines.{ended}
use Rattle.uca_lines.specs.Numbers.{digits}
use Rattle.uca_lines.specs.Files
use Rattle.uca_lines.specs.Files.{ReadsLines, RefusesLine}
use Rattle.uca_certificates.specs.declared.TheConstants.{CERTIFICATE_FORM}
use Rattle.uca_certificates.specs.declared.faults.CertificateFault.{CertificateFault}
use Rattle.uca_certificates.specs.declared.faults.CertificateFaultKind.{CertificateFaultKind}
use Rattle.uca_certificates.specs.declared.faults.CertificateFaultKind.TheVariants as kinds
use Rattle.uca_weights.specs.PerLevel.{at_level}
use Rattle.uca_certificates.specs.Certificates.{CertificateContent, IsCertificate}

-- ---- The text

-- what a line says: a run, and the level that it is of
pub record RunLine : Type 0 where
  pub level : Level
  pub run : Run

-- `LEVEL FROM TO COUNT`: `1`, `2` or `3`, then numbers of four digits
unfoldable pub run_text : RunLine → List ℕ
run_text l = (48 + level_number l.level) ∷ 32 ∷ (digits 4 l.run.from ++ 32 ∷ (digits 4 l.run.to ++ 32 ∷ digits 4 l.run.count))

abbrev pub of_level : Level → List Run → List RunLine
of_level level runs = map (λ run. record { level = level; run = run }) runs

-- those of level 1, then of 2, then of 3
abbrev pub run_lines : CertificateContent → List RunLine
run_lines content = of_level One content.primary ++ (of_level Two content.secondary ++ of_level Three content.tertiary)

-- the one text of a certificate: each line ended by LF
abbrev pub certificate_text : CertificateContent → List ℕ
certificate_text content = flat_map (λ l. ended (run_text l)) (run_lines content)

-- the bytes mean the certificate: they are its text
pub record Means (bytes : List ℕ) (content : CertificateContent) : Type 0 where
  pub text : bytes ≡ certificate_text content
  pub maps : IsCertificate content

-- ---- Lines of a certificate, whether or not their runs make maps

-- the numbers of a line have four digits
pub record IsRunLine (l : RunLine) : Type 0 where
  pub from : l.run.from < 0x1_0000
  pub to : l.run.to < 0x1_0000
  pub count : l.run.count < 0x1_0000

-- the lines say these runs: no level falls, and no level has more than 65,535 runs
pub record Says (lines : List (List ℕ)) (content : CertificateContent) : Type 0 where
  pub text : lines ≡ map run_text (run_lines content)
  pub fit : AllByRecursion IsRunLine (run_lines content)
  pub few : (level : Level) → length (at_level level content) ≤ 0xFFFF

-- ---- Why bytes are rejected

-- the line says this run
pub record IsLine (line : List ℕ) (l : RunLine) : Type 0 where
  pub text : line ≡ run_text l
  pub fits : IsRunLine l

-- the level is lower than that of some run
abbrev pub IsPassed : CertificateContent → Level → Type 0
IsPassed content level = (higher : Level) × (level_number level < level_number higher) × (at_level higher content ≢ [])

-- why a line after lines that say these runs is rejected; no other cause comes before the limit
abbrev pub Cause : CertificateContent → List ℕ → CertificateFaultKind → Type 0
Cause content line kinds.Line = (l : RunLine) → ¬ (IsLine line l)
Cause content line kinds.Order = (l : RunLine) × IsLine line l × IsPassed content l.level
Cause content line kinds.Limit = (l : RunLine) × IsLine line l × ¬ (IsPassed content l.level) × (length (at_level l.level content) ≡ 0xFFFF)
Cause content line _ = ⊥

-- how many lines come before those of a level
abbrev pub lines_below : Level → CertificateContent → ℕ
lines_below One content = 0
lines_below Two content = length content.primary
lines_below Three content = length content.primary + length content.secondary

-- the line of the run with this index, or the line past the last one if the error is not that of a run
abbrev pub map_line : CertificateContent → Level → ℕ → MapFaultKind → ℕ
map_line content level run map_kinds.Fixed = suc (length (run_lines content))
map_line content level run _ = suc (lines_below level content + run)

-- all lines are acceptable, and the runs of this level are the first that make no map
pub record FaultOfMap (bytes : List ℕ) (fault : CertificateFault) : Type 0 where
  pub content : CertificateContent
  pub reads : Files.Reads CERTIFICATE_FORM Says bytes content
  pub level : Level
  pub lower : (other : Level) → level_number other < level_number level → AreProperRuns other (at_level other content)
  pub cause : MapFault
  pub is_fault : IsMapFault level (at_level level content) cause
  pub kind : fault.kind ≡ kinds.Map cause
  pub place : fault.line ≡ map_line content level cause.run cause.kind

-- why known bytes are rejected, when the source has `left` left of them
abbrev pub Refuses : List ℕ → Option (List ℕ) → CertificateFault → Type 0
Refuses bytes left fault = RefusesLine CERTIFICATE_FORM Says Cause bytes left fault.line fault.kind ⊎ FaultOfMap bytes fault

-- ---- Which errors are stops

-- a read failed, or an allocation
abbrev pub IsStop : CertificateFaultKind → Type 0
IsStop kind = (kind ≡ kinds.Read) ⊎ (kind ≡ kinds.Memory)

abbrev pub is_read_kind : CertificateFaultKind → Bool
is_read_kind kinds.Read = true
is_read_kind _ = false

-- whether a read failed
abbrev pub is_read : {X : Type 0} → Result X CertificateFault → Bool
is_read (Ok x) = false
is_read (Err fault) = is_read_kind fault.kind
