-- The maps of the three levels.
use Rattle.std.proofs.Common.{◌≡◌, List, subst, sym, ap, ◌∙◌, refl}
use Rattle.uca_weights.specs.declared.Level.TheVariants.{One, Two, Three}
use Rattle.uca_weights.specs.declared.maps.Run.{Run}
use Rattle.uca_weights.specs.Runs.{AreProperRuns, MapContent}
use Rattle.uca_certificates.specs.Certificates.{CertificateContent, IsCertificate}
use Rattle.uca_plans.specs.Plans.{LevelPlans, runs_of}
use Rattle.uca_tailor.specs.inside.PlanParts.{certificate_by}
use Rattle.uca_tailor.proofs.plan.certificate_by.Goals as goal

-- The runs of a level.
abbrev primary_runs : LevelPlans → List Run
primary_runs n = runs_of n.primary.members n.primary.numbers

abbrev secondary_runs : LevelPlans → List Run
secondary_runs n = runs_of n.secondary.members n.secondary.numbers

abbrev tertiary_runs : LevelPlans → List Run
tertiary_runs n = runs_of n.tertiary.members n.tertiary.numbers

-- A certificate with the runs of each level.
of_runs : (primary secondary tertiary : List Run) (all : CertificateContent) → primary ≡ all.primary → secondary ≡ all.secondary → tertiary ≡ all.tertiary
    → record { primary = primary; secondary = secondary; tertiary = tertiary } ≡ all
of_runs primary secondary tertiary all one two three = rw (one, two, three) refl

pub map_of-requires : goal.map_of-requires
map_of-requires g c =
    subst (AreProperRuns One) (sym (c.in_ok-runs.ensures ∙ ap primary_runs c.numbers.view_is)) c.requires.primary

pub map_of-requires-2 : goal.map_of-requires-2
map_of-requires-2 g c =
    subst (AreProperRuns Two) (sym (c.in_ok-runs-2.ensures ∙ ap secondary_runs c.numbers.view_is)) c.requires.secondary

pub map_of-requires-3 : goal.map_of-requires-3
map_of-requires-3 g c =
    subst (AreProperRuns Three) (sym (c.in_ok-runs-3.ensures ∙ ap tertiary_runs c.numbers.view_is)) c.requires.tertiary

pub returns : goal.returns
returns g c =
    of_runs c.map_of.result.runs c.map_of-2.result.runs c.map_of-3.result.runs (certificate_by c.args.numbers.now)
    (ap (λ (m : MapContent). m.runs) c.map_of.ensures ∙ c.in_ok-runs.ensures ∙ ap primary_runs c.numbers.view_is)
    (ap (λ (m : MapContent). m.runs) c.map_of-2.ensures ∙ c.in_ok-runs-2.ensures ∙ ap secondary_runs c.numbers.view_is)
    (ap (λ (m : MapContent). m.runs) c.map_of-3.ensures ∙ c.in_ok-runs-3.ensures ∙ ap tertiary_runs c.numbers.view_is)

pub invariant_of-result : goal.invariant_of-result
invariant_of-result g c = (
  ap (λ (m : MapContent). m.level) c.map_of.ensures,
  ap (λ (m : MapContent). m.level) c.map_of-2.ensures,
  ap (λ (m : MapContent). m.level) c.map_of-3.ensures,
  subst IsCertificate (sym (returns g c)) c.requires,
)
