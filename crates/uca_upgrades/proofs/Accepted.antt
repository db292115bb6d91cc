-- Accepted changes and tailorings, as the bytes of their files mean them, keep the order of stored keys.
use Rattle.std.proofs.Common.{◌≡◌, ℕ, List, [], ◌∷◌, ◌++◌, ◌||◌, Bool, true, false, map, chars, Ok, refl, ap, ◌∙◌}
use Rattle.std.specs.Char.{IsScalar}
use Rattle.std.specs.List.{AllByRecursion, list_any}
use Rattle.std.proofs.lemmas.Bool.{or_from}
use Rattle.unicode_normalization.specs.Forms.{nfd}
use Rattle.uca_values.specs.Ranges.{is_within}
use Rattle.uca_weights.specs.declared.Numbers.{Numbers}
use Rattle.uca_order.specs.Depths.{read_points, written}
use Rattle.uca_relations.specs.declared.Relation.{Relation}
use Rattle.uca_tailorings.specs.Moves.{KeyMoves}
use Rattle.uca_tailorings.specs.Tailorings.{IsAccepted}
use Rattle.uca_changes.specs.Changes.{Change, IsChange, IsAcceptedChange, old_reading, new_reading}
use Rattle.uca_changes.specs.Laws.{ChangesKeepUnaffectedTexts, TailoringsAreChanges, UnaffectedTextsStay, change_of}
use Rattle.uca_changes.specs.AffectedTexts.{is_affected, occurs_in_order}
use Rattle.uca_run_parts.specs.AffectedRun.{if_so}
use Rattle.uca_run_parts.specs.Files.{audit_files}
use Rattle.uca_run_parts.specs.Verdicts.{RunsAudit}
use Rattle.uca_editions.specs.AffectedTexts.{is_affected_by, listed_in}
use Rattle.uca_change_runs.specs.AuditRun.{change_audit}
use Rattle.uca_change_runs.specs.ChangeFiles.{change_files}
use Rattle.uca_editions.proofs.AffectedTexts.{affected_are_the_others}
use Rattle.uca_tailor_runs.specs.AuditRun.{tailoring_audit}
use Rattle.uca_upgrades.specs.Upgrades.{Upgrade, IsUnaffectedLine, change_upgrade, tailoring_upgrade}
use Rattle.uca_upgrades.specs.Laws.{AcceptedChangesKeepOrder, AuditedChangesKeepOrder, AcceptedTailoringsKeepOrder, AuditedTailoringsKeepOrder, MeanOnly, sources_of}
use Rattle.uca_upgrades.proofs.KeptLines.{keeps_order, own_scalars, read_scalars}
use Rattle.uca_upgrades.proofs.Meanings.{means_change, means_tailoring, over_means}
use Rattle.uca_upgrades.proofs.OneMeaning.{changes_mean_one, mean_one, tailorings_mean_one}

-- ---- Unaffected lines

-- a line and its LF are not nothing
never_empty : (line : List ℕ) → line ++ 10 ∷ [] ≡ [] → ⊥
never_empty [] same = cc
never_empty (byte ∷ line) same = cc

-- where nothing is written of a line, it was not asked for
not_so : (is_so : List ℕ → Bool) (points line : List ℕ) (b : Bool) → is_so points ≡ b → if_so is_so points line ≡ [] → b ≡ false
not_so is_so points line false a none = refl
not_so is_so points line true a none = absurd (never_empty line (rw a at none))

-- so what is read of an unaffected line is not affected
unaffected_text : (numbers : Numbers) (upgrade : Upgrade) (line : List ℕ) → IsUnaffectedLine numbers upgrade line
    → upgrade.affects (nfd (written numbers (chars line))) ≡ false
unaffected_text numbers upgrade line is =
    let points = nfd (written numbers (chars line)) in
    not_so upgrade.affects points line (upgrade.affects points) refl is.unwritten

-- ---- Changes

-- what the change means for the lookups of the tables themselves
stays_by : ChangesKeepUnaffectedTexts → (change : Change) → IsChange change → IsAcceptedChange change →
    UnaffectedTextsStay change (old_reading change) (new_reading change)
stays_by law change is accepted =
    law change (old_reading change) (new_reading change) is accepted
    (record { rows = λ key. refl; ranges = refl; properties = refl })
    (record { rows = λ key. refl; ranges = refl; properties = refl })

-- the key of a line moves where the change does not affect what is read of it
change_moves : ChangesKeepUnaffectedTexts → (change : Change) → IsChange change → IsAcceptedChange change → (numbers : Numbers) (text : List ℕ) →
    AllByRecursion IsScalar (nfd text) → AllByRecursion IsScalar (nfd (written numbers text)) → is_affected_by (listed_in change) (nfd (written numbers text)) ≡ false →
    KeyMoves change.maps (read_points (old_reading change) numbers text) (read_points (new_reading change) numbers text)
change_moves law change is accepted numbers text scalars read none =
    (stays_by law change is accepted).moves numbers text
    (record { scalars = scalars; read_scalars = read; unaffected = (affected_are_the_others change (nfd (written numbers text))).0 none })

pub changes_keep : ChangesKeepUnaffectedTexts → AcceptedChangesKeepOrder
changes_keep law old old_data new new_data changes certificate change means accepted =
    let is = means_change old old_data new new_data changes certificate change means in
    let upgrade = change_upgrade change in
    keeps_order upgrade is.old (λ numbers line unaffected.
    change_moves law change is accepted numbers (chars line) (own_scalars numbers upgrade line unaffected) (read_scalars numbers upgrade line unaffected)
    (unaffected_text numbers upgrade line unaffected))
    (stays_by law change is accepted).chosen

-- a run that accepts does so for a change that its files mean
pub audited_changes_keep : AcceptedChangesKeepOrder → AuditedChangesKeepOrder
audited_changes_keep law old old_data new new_data list certificate news out out_new audit =
    let files = old ∷ old_data ∷ new ∷ new_data ∷ list ∷ certificate ∷ [] in
    let found = over_means change_files files news (RunsAudit change_audit out out_new (Ok true)) true audit.runs in
    let accepted : IsAcceptedChange found.0 = found.2.1.0 in
    let only : MeanOnly change_files (sources_of files) found.0 =
    (found.1, λ other means. mean_one change_files changes_mean_one files other found.0 means found.1) in
    (found.0, only, accepted, law old old_data new new_data list certificate found.0 found.1 accepted)

-- ---- Tailorings

-- no code point lies in a range where there is none
none_within : (points : List ℕ) → list_any (is_within []) points ≡ false
none_within [] = refl
none_within (point ∷ points) = none_within points

-- the targets are the changed texts
same_targets : (points : List ℕ) (relations : List Relation) →
    list_any (λ text. occurs_in_order text points) (map (λ r. r.target.points) relations) ≡ is_affected relations points
same_targets points [] = refl
same_targets points (r ∷ relations) = ap (λ b. occurs_in_order r.target.points points || b) (same_targets points relations)

pub tailorings_keep : ChangesKeepUnaffectedTexts → TailoringsAreChanges → AcceptedTailoringsKeepOrder
tailorings_keep law are base properties rules tailored certificate tailoring means accepted =
    let is = means_tailoring base properties rules tailored certificate tailoring means in
    let change = are tailoring is accepted in
    let upgrade = tailoring_upgrade tailoring in
    keeps_order upgrade is.base (λ numbers line unaffected.
    let points = nfd (written numbers (chars line)) in
    change_moves law (change_of tailoring) change.0 change.1 numbers (chars line) (own_scalars numbers upgrade line unaffected) (read_scalars numbers upgrade line unaffected)
    (or_from (list_any (λ text. occurs_in_order text points) (map (λ r. r.target.points) tailoring.relations)) (list_any (is_within []) points)
    (same_targets points tailoring.relations ∙ unaffected_text numbers upgrade line unaffected) (none_within points)))
    (stays_by law (change_of tailoring) change.0 change.1).chosen

pub audited_tailorings_keep : AcceptedTailoringsKeepOrder → AuditedTailoringsKeepOrder
audited_tailorings_keep law base properties rules tailored certificate news out out_new audit =
    let files = base ∷ properties ∷ rules ∷ tailored ∷ certificate ∷ [] in
    let found = over_means audit_files files news (RunsAudit tailoring_audit out out_new (Ok true)) true audit.runs in
    let accepted : IsAccepted found.0 = found.2.1.0 in
    let only : MeanOnly audit_files (sources_of files) found.0 =
    (found.1, λ other means. mean_one audit_files tailorings_mean_one files other found.0 means found.1) in
    (found.0, only, accepted, law base properties rules tailored certificate found.0 found.1 accepted)
