-- What is known of the files of changes where they are read.
use Rattle.std.specs.Prelude.{List, [], ◌∷◌}
use Rattle.uca_values.specs.Content.{properties_of}
use Rattle.uca_certificates.specs.Certificates.{CertificateContent}
use Rattle.uca_change_files.specs.Changes.{ChangeContent}
use Rattle.uca_changes.specs.Changes.{Change}
use Rattle.uca_run_parts.specs.declared.faults.Role.{Role}
use Rattle.uca_run_parts.specs.declared.faults.Role.TheVariants as roles
use Rattle.uca_run_parts.specs.Files.{Reading, TableAndData, Done, table_with, then_certificate, then_data, then_table}
use Rattle.uca_change_runs.specs.ChangeFiles.{EditionsContent, change_between, editions_with, then_changes}
use Rattle.uca_editions.specs.declared.files.Edition.{Edition}
use Rattle.uca_editions.specs.declared.files.EditionFiles.{EditionFiles}
use Rattle.uca_editions.specs.declared.listed.ListedChanges.{ListedChanges}

-- ---- Some of the files

-- a file of changes
abbrev pub changes_file : Reading ChangeContent
changes_file = then_changes Done

-- a table and its data file, which have these roles
abbrev pub edition_files : Role → Role → Reading TableAndData
edition_files role data_role = then_table role (λ table. then_data data_role (λ properties. Done (table_with table properties)))

-- what a file of changes and a certificate mean
pub record ListedContent : Type 0 where
  pub list : ChangeContent
  pub certificate : CertificateContent

-- what a file of changes and a certificate mean, from its parts
abbrev pub listed_with : ChangeContent → CertificateContent → ListedContent
listed_with list certificate = record { list = list; certificate = certificate }

abbrev pub listed_files : Reading ListedContent
listed_files = then_changes (λ list. then_certificate (λ certificate. Done (listed_with list certificate)))

abbrev pub listed_roles : List Role
listed_roles = roles.Changes ∷ roles.Certificate ∷ []

-- the change from one edition to another, with what both say
abbrev pub change_listed : EditionsContent → ListedContent → Change
change_listed editions listed = change_between editions listed.list listed.certificate

-- ---- What was read of them

abbrev pub edition_of : {A : Type 0} → Edition A → TableAndData
edition_of edition = table_with edition.table (properties_of edition.properties)

abbrev pub editions_of : {A : Type 0} → EditionFiles A → EditionsContent
editions_of files = editions_with (edition_of files.old) (edition_of files.new)

abbrev pub listed_of : {A : Type 0} → ListedChanges A → ListedContent
listed_of listed = listed_with listed.list listed.certificate
