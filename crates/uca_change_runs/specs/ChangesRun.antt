-- What a run of changes returns for what its files mean.
use Rattle.std.specs.Prelude.{List, Result, Ok, Err, ⊤}
use Rattle.uca_weights.specs.Streams.{SourceState}
use Rattle.uca_certificates.specs.Certificates.{CertificateContent}
use Rattle.uca_change_files.specs.Changes.{ChangeContent}
use Rattle.uca_changes.specs.Changes.{IsAcceptedChange}
use Rattle.uca_changes.specs.declared.faults.ChangeFault.{ChangeFault}
use Rattle.uca_editions.specs.ChangeInputs.{MeansUnaffectedTextsStay}
use Rattle.uca_editions.specs.Found.{HaveNoChange}
use Rattle.uca_editions.specs.declared.listed.ListedChanges.{ListedChanges}
use Rattle.uca_run_parts.specs.declared.faults.RunFault.{RunFault}
use Rattle.uca_run_parts.specs.declared.faults.RunFault.TheVariants.{Changes, File, Memory}
use Rattle.uca_run_parts.specs.Files.{HaveFailed, IsFileStop, Mean, Over}
use Rattle.uca_change_runs.specs.ChangeFiles.{EditionsContent, change_between, editions_files, editions_roles}

-- an audit accepts the list and the certificate as what changes from the old edition to the new one, with all that this means
pub record IsFound (editions : EditionsContent) (list : ChangeContent) (certificate : CertificateContent) : Type 0 where
  pub accepted : IsAcceptedChange (change_between editions list certificate)
  pub meaning : MeansUnaffectedTextsStay (change_between editions list certificate)

-- no change between the editions is accepted, whatever is listed, and this is the error of an audit
abbrev pub IsNotFound : EditionsContent → ChangeFault → Type 0
IsNotFound editions fault =
    HaveNoChange (λ changes certificate. change_between editions (record { texts = changes.texts; ranges = changes.ranges }) certificate) fault

-- what a run of changes returns for what its files mean: what changes, or why no change is accepted, or an allocation failed
abbrev pub RunsChanges : {A : Type 0} → Result (ListedChanges A) RunFault → EditionsContent → Type 0
RunsChanges (Ok found) editions = IsFound editions found.list found.certificate
RunsChanges (Err (Changes fault)) editions = IsNotFound editions fault
RunsChanges (Err Memory) editions = ⊤
RunsChanges (Err _) editions = ⊥

-- what a run of changes returns for what its files mean, or reading the files stopped
abbrev pub FindsOrStops : {A : Type 0} → Result (ListedChanges A) RunFault → EditionsContent → Type 0
FindsOrStops (Ok found) editions = RunsChanges (Ok found) editions
FindsOrStops (Err (File role fault)) editions = IsFileStop fault
FindsOrStops {A} (Err fault) editions = RunsChanges {A = A} (Err fault) editions

-- A run of changes: what it returns if the bytes of its files are known, and that files with a meaning are not rejected. And
-- for any sources, which of them have failed.
pub record FindsChanges {A : Type 0} (olds news : List SourceState) (result : Result (ListedChanges A) RunFault) : Type 0 where
  pub runs : Over editions_files olds news (RunsChanges result) result
  pub only : (editions : EditionsContent) → Mean editions_files olds editions → FindsOrStops result editions
  pub failed : HaveFailed editions_roles olds news result
