-- The change that was found, and why there is none.
use Rattle.std.specs.Prelude.{◌≡◌, ◌⊎◌, None, ⊤}
use Rattle.uca_weights.specs.AskedSettings.{weighting_by}
use Rattle.uca_values.specs.Content.{properties_of}
use Rattle.uca_certificates.specs.Certificates.{CertificateContent}
use Rattle.uca_tailorings.specs.Inputs.{maps_of}
use Rattle.uca_change_files.specs.Changes.{ChangeContent}
use Rattle.uca_check.specs.WellFormed.{IsWellFormed}
use Rattle.uca_changes.specs.Changes.{Change}
use Rattle.uca_changes.specs.declared.conditions.ChangeCondition.{ChangeCondition}
use Rattle.uca_changes.specs.declared.conditions.ChangeCondition.TheVariants.{OldIllFormed, NewIllFormed, RangeChanged, Uncovered, RowChanged, RowMissing, RowExtra, PointChanged, SettingChanged}
use Rattle.uca_changes.specs.declared.faults.ChangePlace.{ChangePlace}
use Rattle.uca_editions.specs.ChangeRefusals.{FailsFirstAt, IsFirstRefusal}
use Rattle.uca_changes.specs.declared.faults.ChangeFault.{ChangeFault}
use Rattle.uca_changes.specs.declared.faults.ChangeFault.TheVariants.{NotMet, Memory}
use Rattle.uca_editions.specs.declared.editions.Editions.{Editions}
use Rattle.uca_editions.specs.declared.listed.ListedChanges.{ListedChanges}

-- the change from the old table and data file to the new ones, with what is listed and the maps of a certificate
abbrev pub change_with : {T : Type 0} → Editions T → ChangeContent → CertificateContent → Change
change_with editions changes certificate = record {
  old = editions.old.now;
  old_properties = properties_of editions.old_data.now;
  new = editions.new.now;
  new_properties = properties_of editions.new_data.now;
  texts = changes.texts;
  ranges = changes.ranges;
  maps = maps_of certificate;
}

-- the change from the old table and data file to the new ones, with what was found
abbrev pub change_by : {T : Type 0} → Editions T → ListedChanges T → Change
change_by editions found = change_with editions found.list found.certificate

-- which conditions are on the tables and the data files alone: what is listed and the maps have no part in them
abbrev pub IsOfTables : ChangeCondition → Type 0
IsOfTables OldIllFormed = ⊤
IsOfTables NewIllFormed = ⊤
IsOfTables RangeChanged = ⊥
IsOfTables Uncovered = ⊥
IsOfTables RowChanged = ⊥
IsOfTables RowMissing = ⊥
IsOfTables RowExtra = ⊥
IsOfTables PointChanged = ⊥
IsOfTables SettingChanged = ⊤

-- Why no change from one edition to another is accepted, whatever is listed. `change_with` has the change with such lists and a
-- certificate. The error is that of an audit: for some of them all conditions of lower numbers are met.
pub record HaveNoChange (change_with : ChangeContent → CertificateContent → Change) (fault : ChangeFault) : Type 0 where
  pub condition : ChangeCondition
  pub place : ChangePlace
  pub is : fault ≡ NotMet condition place
  pub of_tables : IsOfTables condition
  pub fails : (changes : ChangeContent) (certificate : CertificateContent) → FailsFirstAt (change_with changes certificate) condition place
  pub named : (changes : ChangeContent) × (certificate : CertificateContent) × IsFirstRefusal (change_with changes certificate) fault

-- why nothing is found: no change is accepted, or an allocation failed
abbrev pub RefusesChanges : {T : Type 0} → Editions T → ChangeFault → Type 0
RefusesChanges editions fault = HaveNoChange (change_with editions) fault ⊎ (fault ≡ Memory)

-- both tables are well-formed, and where no weighting is asked for they say the same one
pub record MayChange {T : Type 0} (editions : Editions T) : Type 0 where
  pub old : IsWellFormed (properties_of editions.old_data.now).class editions.old.now.rows
  pub new : IsWellFormed (properties_of editions.new_data.now).class editions.new.now.rows
  pub setting : weighting_by None editions.old.now.header.setting ≡ weighting_by None editions.new.now.header.setting
