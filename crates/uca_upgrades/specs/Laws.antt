-- Laws of upgrades, from the bytes of files to the keys of a store.
use Rattle.std.specs.Prelude.{◌≡◌, ℕ, List, [], ◌∷◌, map, true, false, Some, Ok}
use Rattle.uca_weights.specs.Streams.{SourceState, SinkState}
use Rattle.uca_tailorings.specs.Tailorings.{Tailoring, IsAccepted}
use Rattle.uca_changes.specs.Changes.{Change, IsAcceptedChange}
use Rattle.uca_run_parts.specs.Files.{Reading, Mean, audit_files}
use Rattle.uca_change_runs.specs.ChangeFiles.{change_files}
use Rattle.uca_change_runs.specs.AuditRun.{AuditsChanges}
use Rattle.uca_tailor_runs.specs.AuditRun.{Audits}
use Rattle.uca_upgrades.specs.Upgrades.{KeepsOrder, change_upgrade, tailoring_upgrade}

-- sources that give the bytes of some files
abbrev pub sources_of : List (List ℕ) → List SourceState
sources_of files = map (λ bytes. record { remaining = Some bytes; failed = false }) files

-- the files mean this, and nothing else
abbrev pub MeanOnly : {C : Type 0} → Reading C → List SourceState → C → Type 0
MeanOnly {C} files sources content = Mean files sources content × ((other : C) → Mean files sources other → other ≡ content)

-- ---- Changes

-- An old table and its data file, a new table and its data file, a file of changes and a certificate, with these bytes.
abbrev pub change_sources : (old old_data new new_data changes certificate : List ℕ) → List SourceState
change_sources old old_data new new_data changes certificate = sources_of (old ∷ old_data ∷ new ∷ new_data ∷ changes ∷ certificate ∷ [])

-- Where they mean a change that is accepted, the store keeps its order by it.
abbrev pub AcceptedChangesKeepOrder : Type 0
AcceptedChangesKeepOrder = (old old_data new new_data changes certificate : List ℕ) (change : Change) →
    Mean change_files (change_sources old old_data new new_data changes certificate) change → IsAcceptedChange change →
    KeepsOrder (change_upgrade change)

-- Where a run of `uca audit-changes` over them returned `Ok(true)`, they mean such a change, and no other.
abbrev pub AuditedChangesKeepOrder : Type 0
AuditedChangesKeepOrder = (old old_data new new_data changes certificate : List ℕ) (news : List SourceState) (out out_new : SinkState) →
    AuditsChanges (change_sources old old_data new new_data changes certificate) news out out_new (Ok true) →
    (change : Change) × MeanOnly change_files (change_sources old old_data new new_data changes certificate) change × IsAcceptedChange change
    × KeepsOrder (change_upgrade change)

-- ---- Tailorings

-- A base, a data file, rules, a tailored table and a certificate, with these bytes.
abbrev pub tailoring_sources : (base properties rules tailored certificate : List ℕ) → List SourceState
tailoring_sources base properties rules tailored certificate = sources_of (base ∷ properties ∷ rules ∷ tailored ∷ certificate ∷ [])

-- Where they mean a tailoring that is accepted, the store keeps its order by it.
abbrev pub AcceptedTailoringsKeepOrder : Type 0
AcceptedTailoringsKeepOrder = (base properties rules tailored certificate : List ℕ) (tailoring : Tailoring) →
    Mean audit_files (tailoring_sources base properties rules tailored certificate) tailoring → IsAccepted tailoring →
    KeepsOrder (tailoring_upgrade tailoring)

-- Where a run of `uca audit` over them returned `Ok(true)`, they mean such a tailoring, and no other.
abbrev pub AuditedTailoringsKeepOrder : Type 0
AuditedTailoringsKeepOrder = (base properties rules tailored certificate : List ℕ) (news : List SourceState) (out out_new : SinkState) →
    Audits (tailoring_sources base properties rules tailored certificate) news out out_new (Ok true) →
    (tailoring : Tailoring) × MeanOnly audit_files (tailoring_sources base properties rules tailored certificate) tailoring × IsAccepted tailoring
    × KeepsOrder (tailoring_upgrade tailoring)
