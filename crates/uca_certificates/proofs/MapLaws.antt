-- Runs of a level that make no map, among all runs.
use Rattle.std.proofs.Common.{◌≡◌, inl, inr, ℕ, zero, suc, ◌+◌, ◌<◌, ◌≤◌, List, [], ◌∷◌, length, Option, Some, None, refl, subst, ◌∙◌, arith}
use Rattle.uca_weights.specs.declared.Level.{Level}
use Rattle.uca_weights.specs.declared.Level.TheVariants.{One, Two, Three}
use Rattle.uca_weights.specs.declared.maps.Run.{Run}
use Rattle.uca_weights.specs.declared.maps.MapFault.{MapFault}
use Rattle.uca_weights.specs.declared.maps.MapFaultKind.{MapFaultKind}
use Rattle.uca_weights.specs.declared.maps.MapFaultKind.TheVariants as map_kinds
use Rattle.uca_weights.specs.Levels.{level_number}
use Rattle.uca_weights.specs.Runs.{AreProperRuns, IsFirstRefused, IsMapFault}
use Rattle.uca_certificates.specs.declared.faults.CertificateFault.{CertificateFault}
use Rattle.uca_weights.specs.PerLevel.{at_level}
use Rattle.uca_certificates.specs.Certificates.{CertificateContent}
use Rattle.uca_certificates.specs.Texts.{run_lines, lines_below, map_line}
use Rattle.uca_certificates.specs.inside.Steps.{fault_line, RefusesRuns, RefusesContent}
use Rattle.uca_certificates.proofs.TextsLemmas.{length-run_lines}

-- the first run that is rejected is one of the runs
refused_within : (level : Level) (previous : Option Run) (runs : List Run) (index : ℕ) (kind : MapFaultKind)
    → IsFirstRefused level previous runs index kind → index ≤ length runs
refused_within level previous [] index kind h = absurd h
refused_within level previous (r ∷ runs) zero kind h = omega arith
refused_within level previous (r ∷ runs) (suc index) kind h = omega (arith, refused_within level (Some r) runs index kind h.1)

-- an error comes at a run, or past the last one
pub fault_within : (level : Level) (runs : List Run) (fault : MapFault) → IsMapFault level runs fault → fault.run ≤ length runs
fault_within level runs fault (inl h) = refused_within level None runs fault.run fault.kind h
fault_within level runs fault (inr h) = omega (arith, h.run)

-- the line of an error, by how many lines come before and how many there are
place_is : (content : CertificateContent) (level : Level) (below all run : ℕ) (kind : MapFaultKind) → below ≡ lines_below level content
    → all ≡ length (run_lines content) → fault_line below all run kind ≡ map_line content level run kind
place_is content level below all run map_kinds.Empty b a = rw b refl
place_is content level below all run map_kinds.NotRising b a = rw b refl
place_is content level below all run map_kinds.OutOfRange b a = rw b refl
place_is content level below all run map_kinds.Fixed b a = rw a refl

-- the runs of the lowest level that make no map
refuses_content : (content : CertificateContent) (level : Level) (runs : List Run) (below all : ℕ) (fault : CertificateFault)
    → ((other : Level) → level_number other < level_number level → AreProperRuns other (at_level other content)) → runs ≡ at_level level content
    → below ≡ lines_below level content → all ≡ length (run_lines content) → RefusesRuns level runs below all fault → RefusesContent content fault
refuses_content content level runs below all fault lower is b a h = record {
  level = level;
  lower = lower;
  cause = h.cause;
  is_fault = subst (λ (rs : List Run). IsMapFault level rs h.cause) is h.is_fault;
  kind = h.kind;
  place = h.place ∙ place_is content level below all h.cause.run h.cause.kind b a;
}

-- the runs of level 1 make no map
pub refuses_primary : (content : CertificateContent) (runs : List Run) (all : ℕ) (fault : CertificateFault) → runs ≡ content.primary
    → all ≡ length content.primary + (length content.secondary + length content.tertiary) → RefusesRuns One runs 0 all fault → RefusesContent content fault
refuses_primary content runs all fault is a h =
    refuses_content content One runs 0 all fault lower is refl (omega (arith, a, length-run_lines content)) h
  where
    lower : (other : Level) → level_number other < 1 → AreProperRuns other (at_level other content)
    lower One l = absurd (omega arith)
    lower Two l = absurd (omega arith)
    lower Three l = absurd (omega arith)

-- the runs of level 2 make no map, and those of level 1 do
pub refuses_secondary : (content : CertificateContent) (runs : List Run) (below all : ℕ) (fault : CertificateFault) → AreProperRuns One content.primary
    → runs ≡ content.secondary → below ≡ length content.primary
    → all ≡ length content.primary + (length content.secondary + length content.tertiary) → RefusesRuns Two runs below all fault → RefusesContent content fault
refuses_secondary content runs below all fault first is b a h =
    refuses_content content Two runs below all fault lower is b (omega (arith, a, length-run_lines content)) h
  where
    lower : (other : Level) → level_number other < 2 → AreProperRuns other (at_level other content)
    lower One l = first
    lower Two l = absurd (omega arith)
    lower Three l = absurd (omega arith)

-- the runs of level 3 make no map, and those of levels 1 and 2 do
pub refuses_tertiary : (content : CertificateContent) (runs : List Run) (below all : ℕ) (fault : CertificateFault) → AreProperRuns One content.primary
    → AreProperRuns Two content.secondary → runs ≡ content.tertiary → below ≡ length content.primary + length content.secondary
    → all ≡ length content.primary + (length content.secondary + length content.tertiary) → RefusesRuns Three runs below all fault
    → RefusesContent content fault
refuses_tertiary content runs below all fault first second is b a h =
    refuses_content content Three runs below all fault lower is b (omega (arith, a, length-run_lines content)) h
  where
    lower : (other : Level) → level_number other < 3 → AreProperRuns other (at_level other content)
    lower One l = first
    lower Two l = second
    lower Three l = absurd (omega arith)
