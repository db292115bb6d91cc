-- What the bytes of files mean is a change, or a tailoring, and what a run returns over such files.
use Rattle.std.proofs.Common.{ℕ, List, [], ◌∷◌, Ok, refl, subst, sym}
use Rattle.uca_weights.specs.Streams.{SourceState}
use Rattle.uca_table.proofs.CanonicalAgain.{meant_is_table}
use Rattle.uca_tailorings.specs.Tailorings.{Tailoring, IsTailoring}
use Rattle.uca_tailorings.proofs.WorkedRuns.{maps_rise}
use Rattle.uca_changes.specs.Changes.{Change, IsChange}
use Rattle.uca_run_parts.specs.Files.{Reading, Done, Then, Mean, Over, audit_files}
use Rattle.uca_change_runs.specs.ChangeFiles.{change_files}
use Rattle.uca_upgrades.specs.Laws.{change_sources, sources_of, tailoring_sources}

-- the six files of a change: tables are within their limits, and the maps of a certificate rise
pub means_change : (old old_data new new_data changes certificate : List ℕ) (change : Change) →
    Mean change_files (change_sources old old_data new new_data changes certificate) change → IsChange change
means_change old old_data new new_data changes certificate change
    (old_table, old_means, (old_properties, old_data_means, (new_table, new_means, (new_properties, new_data_means, (list, list_means, (maps, maps_mean, same)))))) =
    subst IsChange (sym same) (record {
      old = meant_is_table old old_table old_means;
      new = meant_is_table new new_table new_means;
      maps = maps_rise maps maps_mean.maps;
    })

-- the five files of a tailoring, where relations are those of rules
pub means_tailoring : (base properties rules tailored certificate : List ℕ) (tailoring : Tailoring) →
    Mean audit_files (tailoring_sources base properties rules tailored certificate) tailoring → IsTailoring tailoring
means_tailoring base properties rules tailored certificate tailoring
    (table, means, (data_content, data_means, (relations, rules_mean, (new_table, new_means, (maps, maps_mean, same))))) =
    subst IsTailoring (sym same) (record {
      base = meant_is_table base table means;
      tailored = meant_is_table tailored new_table new_means;
      rules = rules_mean.rules;
      maps = maps_rise maps maps_mean.maps;
    })

-- where a run ends well over files whose bytes are known, these mean what it speaks of
pub over_means : {A C : Type 0} (reading : Reading C) (files : List (List ℕ)) (news : List SourceState) (K : C → Type 0) (value : A) →
    Over reading (sources_of files) news K (Ok value) → (content : C) × Mean reading (sources_of files) content × K content
over_means (Done content) [] [] K value over = (content, refl, over)
over_means (Done content) [] (new ∷ news) K value over = absurd over
over_means (Done content) (bytes ∷ files) news K value over = absurd over
over_means (Then role Means Refuses next) [] news K value over = absurd over
over_means (Then role Means Refuses next) (bytes ∷ files) [] K value over = absurd over
over_means (Then role Means Refuses next) (bytes ∷ files) (new ∷ news) K value over =
    let rest = over_means (next over.value) files news K value over.holds in (rest.0, (over.value, over.means, rest.1), rest.2)
