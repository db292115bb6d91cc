-- How a line is read, what it adds to the runs before it, and what all runs make together.
use Rattle.std.specs.Prelude.{◌≡◌, ℕ, suc, ◌+◌, ◌<◌, ◌==◌, List, [], ◌∷◌, ◌++◌, length, take, drop, if◌then◌else◌, Option, Some, None, option_and_then}
use Rattle.std.specs.Option.{option_map}
use Rattle.std.specs.List.{flat_map}
use Rattle.uca_weights.specs.declared.Level.{Level}
use Rattle.uca_weights.specs.declared.Level.TheVariants.{One, Two, Three}
use Rattle.uca_weights.specs.declared.maps.Run.{Run}
use Rattle.uca_weights.specs.declared.maps.MapFault.{MapFault}
use Rattle.uca_weights.specs.declared.maps.MapFaultKind.{MapFaultKind}
use Rattle.uca_weights.specs.declared.maps.MapFaultKind.TheVariants as map_kinds
use Rattle.uca_weights.specs.Levels.{level_number}
use Rattle.uca_weights.specs.Runs.{AreProperRuns, IsMapFault}
use Rattle.uca_lines.specs.Lines.{ended}
use Rattle.uca_lines.specs.Numbers.{weight_of}
use Rattle.uca_certificates.specs.declared.faults.CertificateFault.{CertificateFault}
use Rattle.uca_certificates.specs.declared.faults.CertificateFaultKind.TheVariants as kinds
use Rattle.uca_weights.specs.PerLevel.{at_level}
use Rattle.uca_certificates.specs.Certificates.{CertificateContent}
use Rattle.uca_certificates.specs.Texts.{RunLine, run_text, IsLine, IsPassed, map_line}

-- ---- A line

infixl 10 ◌>>=◌
abbrev pub ◌>>=◌ : {A B : Type 0} → Option A → (A → Option B) → Option B
o >>= f = option_and_then f o

-- the level whose digit begins a text, and what follows it
unfoldable pub level_at : List ℕ → Option (Level × List ℕ)
level_at [] = None
level_at (b ∷ bs) = if b == 49 then Some (One, bs) else (if b == 50 then Some (Two, bs) else (if b == 51 then Some (Three, bs) else None))

-- the number of four digits after a space, and what follows it
unfoldable pub number_at : List ℕ → Option (ℕ × List ℕ)
number_at [] = None
number_at (b ∷ bs) = if b == 32 then option_map (λ n. (n, drop 4 bs)) (weight_of (take 4 bs)) else None

-- the line, where nothing is left of the text
abbrev pub if_empty : List ℕ → RunLine → Option RunLine
if_empty [] l = Some l
if_empty (b ∷ bs) l = None

-- what a line says, if anything
unfoldable pub line_of : List ℕ → Option RunLine
line_of text = do
  level ← level_at text
  from ← number_at level.1
  to ← number_at from.1
  count ← number_at to.1
  if_empty count.1 (record { level = level.0; run = record { from = from.0; to = to.0; count = count.0 } })

-- ---- One line more

-- the runs with one more at the end of a level
abbrev pub put_last : Level → Run → CertificateContent → CertificateContent
put_last One run content = record content { primary = content.primary ++ run ∷ [] }
put_last Two run content = record content { secondary = content.secondary ++ run ∷ [] }
put_last Three run content = record content { tertiary = content.tertiary ++ run ∷ [] }

-- after lines that say the old runs the line may follow, and then they say the new ones
pub record Takes (old : CertificateContent) (line : List ℕ) (new : CertificateContent) : Type 0 where
  pub said : RunLine
  pub is_line : IsLine line said
  pub due : ¬ (IsPassed old said.level)
  pub room : length (at_level said.level old) < 0xFFFF
  pub adds : new ≡ put_last said.level said.run old

-- ---- All runs

-- the line of the run with this index, or the one past the last line, where some runs come before it, at lower levels
abbrev pub fault_line : ℕ → ℕ → ℕ → MapFaultKind → ℕ
fault_line below all run map_kinds.Fixed = suc all
fault_line below all run _ = suc (below + run)

-- the runs of a level make no map
pub record RefusesRuns (level : Level) (runs : List Run) (below all : ℕ) (fault : CertificateFault) : Type 0 where
  pub cause : MapFault
  pub is_fault : IsMapFault level runs cause
  pub kind : fault.kind ≡ kinds.Map cause
  pub place : fault.line ≡ fault_line below all cause.run cause.kind

-- the runs of this level are the first that make no map
pub record RefusesContent (content : CertificateContent) (fault : CertificateFault) : Type 0 where
  pub level : Level
  pub lower : (other : Level) → level_number other < level_number level → AreProperRuns other (at_level other content)
  pub cause : MapFault
  pub is_fault : IsMapFault level (at_level level content) cause
  pub kind : fault.kind ≡ kinds.Map cause
  pub place : fault.line ≡ map_line content level cause.run cause.kind

-- ---- The text of a level

-- the lines of some runs, with their LF
unfoldable pub level_text : Level → List Run → List ℕ
level_text level runs = flat_map (λ run. ended (run_text (record { level = level; run = run }))) runs
