-- What the bytes of six files mean: a change.
use Rattle.std.specs.Prelude.{◌≡◌}
use Rattle.uca_certificates.specs.Certificates.{CertificateContent}
use Rattle.uca_certificates.specs.Texts as certificates
use Rattle.uca_tailorings.specs.Inputs.{maps_of}
use Rattle.uca_change_files.specs.ChangeTexts as changes
use Rattle.uca_changes.specs.Changes.{Change}
use Rattle.uca_editions.specs.AffectedTexts.{listed_in}
use Rattle.uca_owned.specs.Opening.{MeanFiles}
use Rattle.uca_upgrade.specs.declared.files.UpgradeFiles.{UpgradeFiles}

-- The bytes are the files of two editions, a file of changes, and a certificate that says this. Together they mean this change from
-- the old edition to the new one.
pub record MeanChange (files : UpgradeFiles) (change : Change) : Type 0 where
  pub old : MeanFiles files.old_table.now files.old_data.now change.old change.old_properties
  pub new : MeanFiles files.new_table.now files.new_data.now change.new change.new_properties
  pub list : changes.Means files.changes.now (listed_in change)
  pub content : CertificateContent
  pub certificate : certificates.Means files.certificate.now content
  pub maps : change.maps ≡ maps_of content
