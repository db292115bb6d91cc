-- The files that a run reads in turn, and what a run returns for them.
use Rattle.std.specs.Prelude.{◌≡◌, ℕ, ◌≤◌, ◌&&◌, ◌||◌, List, [], ◌∷◌, ◌++◌, Bool, true, false, if◌then◌else◌, Option, Some, None, IfSome, IsSomeAnd, MatchOption, Result, Ok, Err, length, ⊤}
use Rattle.uca_weights.specs.Streams.{SourceState}
use Rattle.uca_values.specs.Content.{TableContent, Properties}
use Rattle.uca_values.specs.declared.faults.TableFault.{TableFault}
use Rattle.uca_lines.specs.FileStops as lines
use Rattle.uca_table.specs.TableLines as tables
use Rattle.uca_table.specs.DataSoFar as data_files
use Rattle.uca_books.specs.Books.{BookContent}
use Rattle.uca_books.specs.BookTexts as books
use Rattle.uca_relations.specs.declared.Relation.{Relation}
use Rattle.uca_rules.specs.Meaning as rule_files
use Rattle.uca_rules.specs.Faults as rule_faults
use Rattle.uca_rules.specs.declared.faults.RuleFaultKind.TheVariants as rule_kinds
use Rattle.uca_certificates.specs.Certificates.{CertificateContent}
use Rattle.uca_certificates.specs.Texts as certificates
use Rattle.uca_tailorings.specs.Tailorings.{Tailoring}
use Rattle.uca_tailorings.specs.Inputs.{tailoring_of}
use Rattle.uca_run_parts.specs.declared.faults.FileFault.{FileFault}
use Rattle.uca_run_parts.specs.declared.faults.FileFault.TheVariants.{Lines, Rules, RulesRead, RulesMemory, Certificate}
use Rattle.uca_run_parts.specs.declared.faults.RunFault.{RunFault}
use Rattle.uca_run_parts.specs.declared.faults.RunFault.TheVariants.{File, Memory, Write}
use Rattle.uca_run_parts.specs.declared.faults.Role.{Role}
use Rattle.uca_run_parts.specs.declared.faults.Role.TheVariants as roles

-- ---- Errors of files

-- whether two roles are the same
abbrev pub is_role : Role → Role → Bool
is_role roles.Table roles.Table = true
is_role roles.Data roles.Data = true
is_role roles.Rules roles.Rules = true
is_role roles.Certificate roles.Certificate = true
is_role roles.Base roles.Base = true
is_role roles.Tailored roles.Tailored = true
is_role roles.Old roles.Old = true
is_role roles.OldData roles.OldData = true
is_role roles.New roles.New = true
is_role roles.NewData roles.NewData = true
is_role roles.Changes roles.Changes = true
is_role roles.Book roles.Book = true
is_role _ _ = false

-- why the file of this role was rejected, where the run ended by that
abbrev pub fault_of : {A : Type 0} → Role → Result A RunFault → Option FileFault
fault_of role (Ok x) = None
fault_of role (Err (File other fault)) = if is_role role other then Some fault else None
fault_of role (Err _) = None

-- whether the error is a file's
abbrev pub ended_by_file : {A : Type 0} → Result A RunFault → Bool
ended_by_file (Ok x) = false
ended_by_file (Err (File role fault)) = true
ended_by_file (Err _) = false

-- whether the error is that reading the file failed
abbrev pub is_read_fault : FileFault → Bool
is_read_fault (Lines fault) = lines.is_read_kind fault.kind
is_read_fault (Rules fault) = false
is_read_fault RulesRead = true
is_read_fault RulesMemory = false
is_read_fault (Certificate fault) = certificates.is_read_kind fault.kind

-- whether reading a file of this role failed
abbrev pub is_file_read : {A : Type 0} → Role → Result A RunFault → Bool
is_file_read role (Ok x) = false
is_file_read role (Err (File other fault)) = is_role role other && is_read_fault fault
is_file_read role (Err _) = false

-- the error is not in the file: a read failed, or an allocation
abbrev pub IsFileStop : FileFault → Type 0
IsFileStop (Lines fault) = lines.IsStop fault.kind
IsFileStop (Rules fault) = fault.kind ≡ rule_kinds.Memory
IsFileStop RulesRead = ⊤
IsFileStop RulesMemory = ⊤
IsFileStop (Certificate fault) = certificates.IsStop fault.kind

-- nothing is rejected: a read or the writer failed, or an allocation
abbrev pub IsStop : RunFault → Type 0
IsStop (File role fault) = IsFileStop fault
IsStop Memory = ⊤
IsStop (Write written) = ⊤
IsStop _ = ⊥

-- ---- One file

-- the file means a value, as its bytes say where they are known, and this is true of it
pub record MeansOne {V : Type 0} (Means : List ℕ → V → Type 0) (known : Option (List ℕ)) (K : V → Type 0) : Type 0 where
  pub value : V
  pub means : IfSome known (λ bytes. Means bytes value)
  pub holds : K value

-- What a run returns by the file of this role, whose source had some bytes and has something left. At an error of that
-- role the bytes are rejected for that cause. Otherwise the file means a value for which K holds. If the bytes are not
-- known, nothing is said of the value, or of why they are rejected.
abbrev pub OverFile : {A V : Type 0} → Role → SourceState → SourceState → (List ℕ → V → Type 0)
    → (List ℕ → Option (List ℕ) → FileFault → Type 0) → (V → Type 0) → Result A RunFault → Type 0
OverFile role old new Means Refuses K result = MatchOption (fault_of role result) (MeansOne Means old.remaining K)
    (λ fault. IfSome old.remaining (λ bytes. Refuses bytes new.remaining fault))

-- ---- The files of a run

-- The files that a run reads in turn, and what they mean together. Each has a role; its bytes mean a value, or are
-- rejected with something left; and the value decides what the files after it mean.
pub data Reading (C : Type 0) : Type 1 where
  Done : C → Reading C
  Then : {V : Type 0} → Role → (List ℕ → V → Type 0) → (List ℕ → Option (List ℕ) → FileFault → Type 0)
      → (V → Reading C) → Reading C

-- What a run returns by its files, whose sources were `olds` and are `news`. Each file in turn is rejected, or means a
-- value, and K holds for what all of them mean.
abbrev pub Over : {A C : Type 0} → Reading C → List SourceState → List SourceState → (C → Type 0)
    → Result A RunFault → Type 0
Over (Done content) [] [] K result = K content
Over (Then role Means Refuses next) (old ∷ olds) (new ∷ news) K result =
    OverFile role old new Means Refuses (λ value. Over (next value) olds news K result) result
Over _ _ _ K result = ⊥

-- the bytes of all files are known, and mean this together
abbrev pub Mean : {C : Type 0} → Reading C → List SourceState → C → Type 0
Mean (Done meant) [] content = content ≡ meant
Mean (Then {V} role Means Refuses next) (source ∷ sources) content = (value : V)
    × IsSomeAnd source.remaining (λ bytes. Means bytes value) × Mean (next value) sources content
Mean _ _ content = ⊥

-- the sources of these roles have failed where they had before, or where the run ended by just that
abbrev pub HaveFailed : {A : Type 0} → List Role → List SourceState → List SourceState → Result A RunFault → Type 0
HaveFailed [] [] [] result = ⊤
HaveFailed (role ∷ others) (old ∷ olds) (new ∷ news) result =
    (new.failed ≡ (old.failed || is_file_read role result)) × HaveFailed others olds news result
HaveFailed _ _ _ result = ⊥

-- ---- Kinds of files

-- why a file that is read line by line is rejected
abbrev pub OfLines : (List ℕ → Option (List ℕ) → TableFault → Type 0) → List ℕ → Option (List ℕ) → FileFault → Type 0
OfLines Refuses bytes left (Lines fault) = Refuses bytes left fault
OfLines Refuses bytes left _ = ⊥

-- a table of this role comes next
abbrev pub then_table : {C : Type 0} → Role → (TableContent → Reading C) → Reading C
then_table role next = Then role tables.Means (OfLines tables.Refuses) next

-- a data file of this role does
abbrev pub then_data : {C : Type 0} → Role → (Properties → Reading C) → Reading C
then_data role next = Then role data_files.Means (OfLines data_files.Refuses) next

-- at most this many of the bytes were read, and the others are left
abbrev pub LosesAtMost : ℕ → List ℕ → Option (List ℕ) → Type 0
LosesAtMost most bytes left = IsSomeAnd left (λ rest. (part : List ℕ) × (bytes ≡ part ++ rest) × (length part ≤ most))

-- Why the bytes of a file of rules are rejected, and how many were read at most. There is a cause in them, or reading
-- them failed, or an allocation for them failed. Rules have 1,048,576 bytes at most, and one more is read of longer
-- ones.
abbrev pub RefusesRules : Properties → List ℕ → Option (List ℕ) → FileFault → Type 0
RefusesRules properties bytes left (Rules fault) =
    rule_faults.IsCause properties bytes fault.byte fault.kind × LosesAtMost 1048577 bytes left
RefusesRules properties bytes left RulesRead = LosesAtMost 1048576 bytes left
RefusesRules properties bytes left RulesMemory = LosesAtMost 1048577 bytes left
RefusesRules properties bytes left _ = ⊥

-- a file of rules comes next, whose texts have the classes of a data file
abbrev pub then_rules : {C : Type 0} → Properties → (List Relation → Reading C) → Reading C
then_rules properties next = Then roles.Rules (rule_files.Means properties) (RefusesRules properties) next

-- why a certificate is rejected
abbrev pub RefusesCertificate : List ℕ → Option (List ℕ) → FileFault → Type 0
RefusesCertificate bytes left (Certificate fault) = certificates.Refuses bytes left fault
RefusesCertificate bytes left _ = ⊥

-- a certificate comes next
abbrev pub then_certificate : {C : Type 0} → (CertificateContent → Reading C) → Reading C
then_certificate next = Then roles.Certificate certificates.Means RefusesCertificate next

-- a book does
abbrev pub then_book : {C : Type 0} → (BookContent → Reading C) → Reading C
then_book next = Then roles.Book books.Means (OfLines books.Refuses) next

-- ---- A table and a data file

-- what they mean
pub record TableAndData : Type 0 where
  pub table : TableContent
  pub properties : Properties

-- what a table and a data file mean, from its parts
abbrev pub table_with : TableContent → Properties → TableAndData
table_with table properties = record { table = table; properties = properties }

abbrev pub table_and_data : Reading TableAndData
table_and_data = then_table roles.Table (λ table. then_data roles.Data (λ properties. Done (table_with table properties)))

abbrev pub table_and_data_roles : List Role
table_and_data_roles = roles.Table ∷ roles.Data ∷ []

-- ---- A data file and rules

-- what they mean
pub record DataAndRules : Type 0 where
  pub properties : Properties
  pub relations : List Relation

-- what a data file and rules mean, from its parts
abbrev pub data_with : Properties → List Relation → DataAndRules
data_with properties relations = record { properties = properties; relations = relations }

abbrev pub data_and_rules : Reading DataAndRules
data_and_rules = then_data roles.Data (λ properties. then_rules properties (λ relations. Done (data_with properties relations)))

abbrev pub data_and_rules_roles : List Role
data_and_rules_roles = roles.Data ∷ roles.Rules ∷ []

-- ---- The files that a tailoring is made by

-- what they mean
pub record TailorContent : Type 0 where
  pub base : TableContent
  pub properties : Properties
  pub relations : List Relation

-- what the files mean that a tailoring is made by, from its parts
abbrev pub tailor_content : TableContent → Properties → List Relation → TailorContent
tailor_content base properties relations = record { base = base; properties = properties; relations = relations }

-- a table of this role, a data file and rules
abbrev pub rules_over : Role → Reading TailorContent
rules_over role = then_table role (λ base. then_data roles.Data (λ properties. then_rules properties (λ relations.
    Done (tailor_content base properties relations))))

abbrev pub tailor_files : Reading TailorContent
tailor_files = rules_over roles.Table

abbrev pub tailor_roles : List Role
tailor_roles = roles.Table ∷ roles.Data ∷ roles.Rules ∷ []

-- ---- The files of an audit

-- the tailoring that they mean together
abbrev pub audit_files : Reading Tailoring
audit_files = then_table roles.Base (λ base. then_data roles.Data (λ properties. then_rules properties (λ relations.
    then_table roles.Tailored (λ tailored. then_certificate (λ certificate.
    Done (tailoring_of base properties relations tailored certificate))))))

abbrev pub audit_roles : List Role
audit_roles = roles.Base ∷ roles.Data ∷ roles.Rules ∷ roles.Tailored ∷ roles.Certificate ∷ []
