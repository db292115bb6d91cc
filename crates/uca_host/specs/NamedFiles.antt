-- Files by their names: how they are opened in order, and how the file of a certificate is kept.
use Rattle.std.specs.Prelude.{◌≡◌, ◌≢◌, ◌⊎◌, ◌<◌, ℕ, List, [], ◌∷◌, Bool, true, false, Option, Result, Ok, Err, IfErr, is_err, length}
use Rattle.uca_weights.specs.declared.streams.sink.WriteFault.{WriteFault}
use Rattle.uca_weights.specs.Streams.{SourceState, SinkState}
use Rattle.uca_weights.specs.Writes.{Writes}
use Rattle.uca_certificates.specs.Certificates.{CertificateContent}
use Rattle.uca_certificates.specs.Texts.{certificate_text}
use Rattle.uca_words.specs.declared.EditionNames.{EditionNames}
use Rattle.uca_run_parts.specs.declared.faults.Role.{Role}
use Rattle.uca_run_parts.specs.declared.faults.Role.TheVariants as roles
use Rattle.uca_run_parts.specs.declared.faults.RunFault.{RunFault}
use Rattle.uca_run_parts.specs.declared.faults.RunFault.TheVariants.{CertificateWrite, Memory}
use Rattle.uca_host.specs.FileCalls.{FileCalls}
use Rattle.uca_host.specs.declared.files.opens.OpenFault.{OpenFault}
use Rattle.uca_host.specs.declared.files.opens.MakeFault.{MakeFault}
use Rattle.uca_host.specs.declared.files.opens.MakeFault.TheVariants as make_fault

-- ---- A file system

-- A file system: what is true of its calls, what the bytes of an opened file are, and those of a file that was made.
pub record FileSystem (O F M : Type 0) : Type 1 where
  pub calls : FileCalls O F M
  pub remaining : F → Option (List ℕ)
  pub contents : M → Option (List ℕ)

-- a file system, from its parts
abbrev pub file_system : {O F M : Type 0} → FileCalls O F M → (F → Option (List ℕ)) → (M → Option (List ℕ)) → FileSystem O F M
file_system calls remaining contents = record { calls = calls; remaining = remaining; contents = contents }

-- ---- The files of a subcommand

-- a file that is to be opened: what it is for, and its name
pub record NamedFile : Type 0 where
  pub role : Role
  pub name : List ℕ

-- a file that is to be opened, from its parts
abbrev pub file_for : Role → List ℕ → NamedFile
file_for role name = record { role = role; name = name }

-- the two files of most subcommands
abbrev pub table_and_data : List ℕ → List ℕ → List NamedFile
table_and_data table properties = file_for roles.Table table ∷ file_for roles.Data properties ∷ []

-- the three files that `tailor` reads
abbrev pub tailor_files : List ℕ → List ℕ → List ℕ → List NamedFile
tailor_files table properties rules =
    file_for roles.Table table ∷ file_for roles.Data properties ∷ file_for roles.Rules rules ∷ []

-- what the second file of `affected` is: changes with `--changes`, else rules
abbrev pub affected_role : Bool → Role
affected_role true = roles.Changes
affected_role false = roles.Rules

-- the two files that `affected` reads
abbrev pub affected_files : Bool → List ℕ → List ℕ → List NamedFile
affected_files changes properties rules =
    file_for roles.Data properties ∷ file_for (affected_role changes) rules ∷ []

-- the five files of `audit`
abbrev pub audit_files : List ℕ → List ℕ → List ℕ → List ℕ → List ℕ → List NamedFile
audit_files base properties rules tailored certificate =
    file_for roles.Base base ∷ file_for roles.Data properties ∷ file_for roles.Rules rules
    ∷ file_for roles.Tailored tailored ∷ file_for roles.Certificate certificate ∷ []

-- the four files that `changes` reads
abbrev pub edition_files : EditionNames → List NamedFile
edition_files names =
    file_for roles.Old names.old.now ∷ file_for roles.OldData names.old_data.now
    ∷ file_for roles.New names.new.now ∷ file_for roles.NewData names.new_data.now ∷ []

-- the six files of `audit-changes`
abbrev pub change_files : EditionNames → List ℕ → List ℕ → List NamedFile
change_files names changes certificate =
    file_for roles.Old names.old.now ∷ file_for roles.OldData names.old_data.now
    ∷ file_for roles.New names.new.now ∷ file_for roles.NewData names.new_data.now
    ∷ file_for roles.Changes changes ∷ file_for roles.Certificate certificate ∷ []

-- ---- Opened files

-- the file of this name was opened, and this is its source, and nothing of it was read
abbrev pub IsOpened : {O F M : Type 0} → FileSystem O F M → O → O → List ℕ → SourceState → Type 0
IsOpened {F = F} files old new name source =
    (file : F) × files.calls.gives old name (Ok file) new
    × (source ≡ record { remaining = files.remaining file; failed = false })

-- the files were opened in this order, and these are their sources
abbrev pub AreOpened : {O F M : Type 0} → FileSystem O F M → O → O → List NamedFile → List SourceState → Type 0
AreOpened files old new [] [] = new ≡ old
AreOpened {O = O} files old new (file ∷ named) (source ∷ sources) =
    (between : O) × IsOpened files old between file.name source × AreOpened files between new named sources
AreOpened files old new _ _ = ⊥

-- the file of this role does not open, and those before it did
abbrev pub DoesNotOpen : {O F M : Type 0} → FileSystem O F M → O → O → List NamedFile → Role → Type 0
DoesNotOpen files old new [] role = ⊥
DoesNotOpen {O = O} files old new (file ∷ named) role =
    ((role ≡ file.role) × (fault : OpenFault) × files.calls.gives old file.name (Err fault) new)
    ⊎ ((between : O) × (source : SourceState) × IsOpened files old between file.name source
    × DoesNotOpen files between new named role)

-- ---- The file of a certificate

-- whether a name is that of the certificate: the names are equal, or the file system says that they are of one file
abbrev pub IsCertificate : {O F M : Type 0} → FileSystem O F M → O → O → List ℕ → List ℕ → Bool → Type 0
IsCertificate files old new name certificate same = ((name ≡ certificate) × (same ≡ true) × (new ≡ old))
    ⊎ ((name ≢ certificate) × files.calls.compares old name certificate same new)

-- none of these files is the certificate's
abbrev pub AreOthers : {O F M : Type 0} → FileSystem O F M → O → O → List NamedFile → List ℕ → Type 0
AreOthers files old new [] certificate = new ≡ old
AreOthers {O = O} files old new (file ∷ named) certificate = (between : O)
    × IsCertificate files old between file.name certificate false × AreOthers files between new named certificate

-- the first of these files that is the certificate's has this role
abbrev pub IsFirstSame : {O F M : Type 0} → FileSystem O F M → O → O → List NamedFile → List ℕ → Role → Type 0
IsFirstSame files old new [] certificate role = ⊥
IsFirstSame {O = O} files old new (file ∷ named) certificate role =
    ((role ≡ file.role) × IsCertificate files old new file.name certificate true)
    ⊎ ((between : O) × IsCertificate files old between file.name certificate false
    × IsFirstSame files between new named certificate role)

-- the error of a file that cannot be made or kept
abbrev pub make_fault_of : MakeFault → RunFault
make_fault_of make_fault.Write = CertificateWrite 0
make_fault_of make_fault.Memory = Memory

-- the result of keeping a file
abbrev pub kept_result : Result (Unit {0}) MakeFault → Result (Unit {0}) RunFault
kept_result (Ok done) = Ok done
kept_result (Err fault) = Err (make_fault_of fault)

-- A file to which a text was to be written: it is kept under its name where the whole text went out, and else it is
-- removed. What the names of the file system then hold is up to it.
abbrev pub EndsFile : {O F M : Type 0} → FileSystem O F M → O → O → M → List ℕ → Result (Unit {0}) WriteFault
    → Result (Unit {0}) RunFault → Type 0
EndsFile files old new file name (Ok done) result = (kept : Result (Unit {0}) MakeFault)
    × files.calls.keeps old file name kept new × (result ≡ kept_result kept)
EndsFile files old new file name (Err fault) result =
    files.calls.removes old file new × (result ≡ Err (CertificateWrite fault.written))

-- A file was made for this name, and the certificate was written to it, or as much of it as a writer that fails leaves.
-- Then the file is kept or removed. `file` is what was made, and `file_new` the same after the writing.
pub record WritesFile {O F M : Type 0} (files : FileSystem O F M) (old new : O) (name : List ℕ)
    (certificate : CertificateContent) (result : Result (Unit {0}) RunFault) : Type 0 where
  pub file : M
  pub between : O
  pub made : files.calls.makes old name (Ok file) between
  pub sink : SinkState
  pub written : Result (Unit {0}) WriteFault
  pub writes : Writes (files.contents file) sink.contents (certificate_text certificate) written
  pub not_all : IfErr written (λ fault. fault.written < length (certificate_text certificate))
  pub failed : sink.failed ≡ is_err written
  pub file_new : M
  pub contents : files.contents file_new ≡ sink.contents
  pub ends : EndsFile files between new file_new name written result

-- no file can be made for this name
abbrev pub DoesNotMake : {O F M : Type 0} → FileSystem O F M → O → O → List ℕ → Result (Unit {0}) RunFault → Type 0
DoesNotMake files old new name result =
    (fault : MakeFault) × files.calls.makes old name (Err fault) new × (result ≡ Err (make_fault_of fault))

-- the certificate is written to a file that is made for this name, and that is kept under it only as a whole
abbrev pub KeepsCertificate : {O F M : Type 0} → FileSystem O F M → O → O → List ℕ → CertificateContent
    → Result (Unit {0}) RunFault → Type 0
KeepsCertificate files old new name certificate result =
    DoesNotMake files old new name result ⊎ WritesFile files old new name certificate result
