-- The run that finds changes, from what its files mean and what is returned for that.
use Rattle.std.specs.Prelude.{MatchResult}
use Rattle.std.proofs.Common.{◌≡◌, ◌⊎◌, inl, inr, true, false, Ok, Err, Result, List, refl, subst, sym}
use Rattle.uca_weights.specs.Streams.{SourceState}
use Rattle.uca_changes.specs.declared.faults.ChangeFault.{ChangeFault}
use Rattle.uca_changes.specs.declared.faults.ChangeFault.TheVariants as change_faults
use Rattle.uca_editions.specs.declared.listed.ListedChanges.{ListedChanges}
use Rattle.uca_run_parts.specs.declared.faults.RunFault.{RunFault}
use Rattle.uca_run_parts.specs.declared.faults.RunFault.TheVariants.{File}
use Rattle.uca_run_parts.specs.ChangeFaults.{refused_changes}
use Rattle.uca_run_parts.specs.Files.{IsStop, ended_by_file}
use Rattle.uca_run_parts.specs.ReadFiles.{ReadsFiles}
use Rattle.uca_run_parts.proofs.FilesLemmas.{ended_by_files, failed_by_files, failed_by_no_file, runs_over_all}
use Rattle.uca_change_runs.specs.ChangeFiles.{EditionsContent, editions_files, editions_roles}
use Rattle.uca_change_runs.specs.ChangesRun.{FindsChanges, FindsOrStops, IsNotFound, RunsChanges}

-- where reading the files stopped
stops_at_file : (F A : Type 0) (fault : RunFault) (editions : EditionsContent) → ended_by_file {A = A} (Err fault) ≡ true → IsStop fault
    → FindsOrStops {A = F} (Err fault) editions
stops_at_file F A (File role cause) editions file stop = stop
stops_at_file F A _ editions file stop = let never : ⊥ = cc in absurd never

-- why nothing is found
refusal_of : (F : Type 0) (editions : EditionsContent) (fault : ChangeFault) → IsNotFound editions fault ⊎ (fault ≡ change_faults.Memory)
    → RunsChanges {A = F} (Err (refused_changes fault)) editions
refusal_of F editions (change_faults.NotMet condition place) (inl refusal) = refusal
refusal_of F editions (change_faults.NotMet condition place) (inr memory) = let never : ⊥ = cc in absurd never
refusal_of F editions change_faults.Memory refuses = tt

module _ {F : Type 0} where
  -- it is returned as an error
  pub not_found : (result : Result (ListedChanges F) RunFault) (editions : EditionsContent) (fault : ChangeFault)
      → result ≡ Err (refused_changes fault) → IsNotFound editions fault ⊎ (fault ≡ change_faults.Memory) → RunsChanges result editions
  not_found result editions fault is refuses = subst (λ r. RunsChanges r editions) (sym is) (refusal_of F editions fault refuses)

  -- what is returned for editions is no error of a file
  no_file_of_editions : (result : Result (ListedChanges F) RunFault) (editions : EditionsContent) → RunsChanges result editions → ended_by_file result ≡ false
  no_file_of_editions (Ok found) editions runs = refl
  no_file_of_editions (Err (File role cause)) editions runs = absurd runs
  no_file_of_editions (Err _) editions runs = refl

  -- it is returned for files that mean them
  finds : (result : Result (ListedChanges F) RunFault) (editions : EditionsContent) → RunsChanges result editions → FindsOrStops result editions
  finds (Ok found) editions runs = runs
  finds (Err (File role cause)) editions runs = absurd runs
  finds (Err _) editions runs = runs

  module _ {T : Type 0} (olds news : List SourceState) (editions_of : T → EditionsContent) where
    pub finds_changes : (read : Result T RunFault) (result : Result (ListedChanges F) RunFault) → ReadsFiles editions_files editions_roles olds news editions_of read
        → MatchResult read (λ files. RunsChanges result (editions_of files)) (λ fault. result ≡ Err fault) → FindsChanges olds news result
    finds_changes (Ok files) result reads runs =
        let no_file = no_file_of_editions result (editions_of files) runs in
        record {
          runs = runs_over_all editions_files olds news (λ editions. editions_of files ≡ editions) (RunsChanges result) files result no_file
              (λ editions same. subst (RunsChanges result) same runs) reads.read;
          only = λ editions mean. finds result editions (subst (RunsChanges result) (reads.only editions mean) runs);
          failed = failed_by_no_file editions_roles olds news files result reads.failed no_file;
        }
    finds_changes (Err fault) result reads ends =
        subst (FindsChanges olds news) (sym ends) (record {
          runs = ended_by_files (ListedChanges F) T editions_files olds news (RunsChanges {A = F} (Err fault)) fault reads.read;
          only = λ editions mean. stops_at_file F T fault editions reads.of_files (reads.only editions mean);
          failed = failed_by_files (ListedChanges F) T editions_roles olds news fault reads.failed;
        })
