-- What is known of files where they are read.
use Rattle.std.specs.Prelude.{◌≡◌, ℕ, ◌<◌, ◌≤◌, List, [], ◌∷◌, Bool, true, false, Option, IfSome, Result, Ok, Err, MatchResult, is_err, length}
use Rattle.std.specs.Io.KnownBytes.{Consumes, IsAtEnd}
use Rattle.uca_weights.specs.Streams.{SourceState}
use Rattle.uca_values.specs.Content.{Properties, TableContent}
use Rattle.uca_relations.specs.declared.Relation.{Relation}
use Rattle.uca_certificates.specs.Certificates.{CertificateContent}
use Rattle.uca_books.specs.Books.{BookContent}
use Rattle.uca_run_parts.specs.declared.faults.FileFault.{FileFault}
use Rattle.uca_run_parts.specs.declared.faults.FileFault.TheVariants.{RulesRead, RulesMemory}
use Rattle.uca_run_parts.specs.declared.faults.RunFault.{RunFault}
use Rattle.uca_run_parts.specs.declared.faults.RunFault.TheVariants.{File}
use Rattle.uca_run_parts.specs.declared.faults.Role.{Role}
use Rattle.uca_run_parts.specs.declared.faults.Role.TheVariants as roles
use Rattle.uca_run_parts.specs.Files.{DataAndRules, HaveFailed, IsStop, Mean, Over, Reading, TailorContent, Done, ended_by_file, tailor_content, then_book, then_certificate, then_data, then_rules, then_table}

-- ---- What is read

-- what was read is this, or nothing was
abbrev pub IsRead : {A C : Type 0} → (A → C) → Result A RunFault → C → Type 0
IsRead content_of (Ok files) content = content_of files ≡ content
IsRead content_of (Err fault) content = ⊥

-- of files that mean something this is what is read, unless the reading stops
abbrev pub ReadsOnly : {A C : Type 0} → Reading C → List SourceState → (A → C) → Result A RunFault → Type 0
ReadsOnly {C = C} reading sources content_of result = (content : C) → Mean reading sources content
    → MatchResult result (λ files. content_of files ≡ content) IsStop

-- What reading files gives, which have these roles, and whose sources were `olds` and are `news`: what all of them mean, or
-- the error of the first that is rejected.
pub record ReadsFiles {A C : Type 0} (reading : Reading C) (of : List Role) (olds news : List SourceState) (content_of : A → C)
    (result : Result A RunFault) : Type 0 where
  pub read : Over reading olds news (IsRead content_of result) result
  pub only : ReadsOnly reading olds content_of result
  pub of_files : ended_by_file result ≡ is_err result
  pub failed : HaveFailed of olds news result

-- one file: a table of this role, a data file of it, rules, a certificate, or a book
abbrev pub table_file : Role → Reading TableContent
table_file role = then_table role Done

abbrev pub data_file : Role → Reading Properties
data_file role = then_data role Done

abbrev pub rules_file : Properties → Reading (List Relation)
rules_file properties = then_rules properties Done

abbrev pub certificate_file : Reading CertificateContent
certificate_file = then_certificate Done

abbrev pub book_file : Reading BookContent
book_file = then_book Done

-- of known bytes that mean a value, this is what is read, unless the reading stops
abbrev pub ReadsThat : {V : Type 0} → Option (List ℕ) → (List ℕ → V → Type 0) → Result V RunFault → Type 0
ReadsThat {V} known Means result = IfSome known (λ bytes. (value : V) → Means bytes value
    → MatchResult result (λ read. read ≡ value) IsStop)

-- the run ends as the file of this role is rejected
abbrev pub IsRefused : Role → SourceState → SourceState → (List ℕ → Option (List ℕ) → FileFault → Type 0)
    → RunFault → Type 0
IsRefused role old new Refuses fault = (cause : FileFault) × (fault ≡ File role cause)
    × IfSome old.remaining (λ bytes. Refuses bytes new.remaining cause)

-- ---- The bytes of rules

-- the known bytes of a file, or the first 1,048,577
pub record AreRead (start now : Option (List ℕ)) (bytes : List ℕ) : Type 0 where
  pub loses : Consumes start now bytes
  pub few : length bytes ≤ 1048577
  pub all : length bytes < 1048577 → IsAtEnd now

-- why they were not read
abbrev pub IsNotRead : Option (List ℕ) → Option (List ℕ) → FileFault → Type 0
IsNotRead start now RulesRead = (part : List ℕ) × Consumes start now part × (length part ≤ 1048576)
IsNotRead start now RulesMemory = (part : List ℕ) × Consumes start now part × (length part ≤ 1048577)
IsNotRead start now _ = ⊥

-- whether it is that a read failed
abbrev pub is_rules_read : {A : Type 0} → Result A FileFault → Bool
is_rules_read (Ok x) = false
is_rules_read (Err RulesRead) = true
is_rules_read (Err _) = false

-- what a tailoring is made by, of its table and of the other two files
abbrev pub tailor_by : TableContent → DataAndRules → TailorContent
tailor_by base given = tailor_content base given.properties given.relations

-- ---- The files that a tailoring gave

-- what they mean
pub record OutcomeContent : Type 0 where
  pub tailored : TableContent
  pub certificate : CertificateContent

-- what the files mean that a tailoring gave, from its parts
abbrev pub outcome_of : TableContent → CertificateContent → OutcomeContent
outcome_of tailored certificate = record { tailored = tailored; certificate = certificate }

-- the table after the tailoring, and its certificate
abbrev pub outcome_files : Reading OutcomeContent
outcome_files = then_table roles.Tailored (λ tailored. then_certificate (λ certificate.
    Done (outcome_of tailored certificate)))

abbrev pub outcome_roles : List Role
outcome_roles = roles.Tailored ∷ roles.Certificate ∷ []
