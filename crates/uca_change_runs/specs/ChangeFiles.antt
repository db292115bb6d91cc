-- The files of changes, and what they mean.
use Rattle.std.specs.Prelude.{List, [], ◌∷◌}
use Rattle.uca_values.specs.Content.{Properties}
use Rattle.uca_certificates.specs.Certificates.{CertificateContent}
use Rattle.uca_tailorings.specs.Inputs.{maps_of}
use Rattle.uca_change_files.specs.Changes.{ChangeContent}
use Rattle.uca_change_files.specs.ChangeTexts as changes
use Rattle.uca_changes.specs.Changes.{Change}
use Rattle.uca_run_parts.specs.declared.faults.Role.{Role}
use Rattle.uca_run_parts.specs.declared.faults.Role.TheVariants as roles
use Rattle.uca_run_parts.specs.Files.{OfLines, Reading, TableAndData, Done, Then, table_with, then_certificate, then_data, then_table}

-- ---- A file of changes

-- a file of changes comes next
abbrev pub then_changes : {C : Type 0} → (ChangeContent → Reading C) → Reading C
then_changes next = Then roles.Changes changes.Means (OfLines changes.Refuses) next

-- ---- A data file and a file of changes

-- what they mean
pub record DataAndChanges : Type 0 where
  pub properties : Properties
  pub list : ChangeContent

-- what a data file and a file of changes mean, from its parts
abbrev pub changes_with : Properties → ChangeContent → DataAndChanges
changes_with properties list = record { properties = properties; list = list }

abbrev pub data_and_changes : Reading DataAndChanges
data_and_changes = then_data roles.Data (λ properties. then_changes (λ list. Done (changes_with properties list)))

abbrev pub data_and_changes_roles : List Role
data_and_changes_roles = roles.Data ∷ roles.Changes ∷ []

-- ---- Two editions: an old table and its data file, and new ones

-- what they mean
pub record EditionsContent : Type 0 where
  pub old : TableAndData
  pub new : TableAndData

-- what two editions mean, from its parts
abbrev pub editions_with : TableAndData → TableAndData → EditionsContent
editions_with old new = record { old = old; new = new }

abbrev pub editions_files : Reading EditionsContent
editions_files = then_table roles.Old (λ old. then_data roles.OldData (λ old_properties. then_table roles.New (λ new. then_data roles.NewData (λ new_properties.
    Done (editions_with (table_with old old_properties) (table_with new new_properties))))))

abbrev pub editions_roles : List Role
editions_roles = roles.Old ∷ roles.OldData ∷ roles.New ∷ roles.NewData ∷ []

-- ---- The files of a change

-- the change from the old edition to the new one, with what is listed and the maps of a certificate
abbrev pub change_between : EditionsContent → ChangeContent → CertificateContent → Change
change_between editions list certificate = record {
  old = editions.old.table;
  old_properties = editions.old.properties;
  new = editions.new.table;
  new_properties = editions.new.properties;
  texts = list.texts;
  ranges = list.ranges;
  maps = maps_of certificate;
}

-- the change that they mean together
abbrev pub change_files : Reading Change
change_files = then_table roles.Old (λ old. then_data roles.OldData (λ old_properties. then_table roles.New (λ new. then_data roles.NewData (λ new_properties.
    then_changes (λ list. then_certificate (λ certificate.
    Done (change_between (editions_with (table_with old old_properties) (table_with new new_properties)) list certificate)))))))

abbrev pub change_roles : List Role
change_roles = roles.Old ∷ roles.OldData ∷ roles.New ∷ roles.NewData ∷ roles.Changes ∷ roles.Certificate ∷ []
