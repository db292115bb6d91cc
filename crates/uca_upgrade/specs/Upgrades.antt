-- What a clause sees of an upgrade, and what is true of stored keys where it is that of an accepted change.
use Rattle.std.specs.Prelude.{◌≡◌, ℕ, List, Bool, false, Option, Some, chars}
use Rattle.std.specs.Str.{IsUtf8}
use Rattle.uca_weights.specs.declared.Asked.{Asked}
use Rattle.uca_weights.specs.declared.Settings.{Settings}
use Rattle.uca_values.specs.Content.{DataContent, properties_of}
use Rattle.uca_order.specs.Depths.{written_text}
use Rattle.uca_order.specs.Keyings.{Keying, keying, key_of_bytes}
use Rattle.uca_certificates.specs.Certificates.{CertificateContent}
use Rattle.uca_tailorings.specs.Inputs.{maps_of}
use Rattle.uca_tailorings.specs.Moves.{moved_key}
use Rattle.uca_change_files.specs.Changes.{ChangeContent}
use Rattle.uca_changes.specs.Changes.{Change, new_reading, old_reading, new_settings, old_settings}
use Rattle.uca_changes.specs.Laws.{UnaffectedTextsStay}
use Rattle.uca_editions.specs.AffectedTexts.{is_affected_by, listed_in}
use Rattle.uca_fingerprint.specs.Fingerprints.{fingerprint}
use Rattle.uca_upgrade.specs.declared.files.UpgradeFiles.{UpgradeFiles}

-- What changes, the certificate whose maps keys are put through, the settings of the stored keys, and the data file that texts are
-- normalized by. And the fingerprints of what keys are made by: under the old files, and under the new ones.
pub record UpgradeState : Type 0 where
  pub list : ChangeContent
  pub certificate : CertificateContent
  pub settings : Settings
  pub data_file : DataContent
  pub old_fingerprint : List ℕ
  pub new_fingerprint : List ℕ

-- It keeps these of a change which files mean, for keys that were made with these settings asked for.
pub record KeepsChange (files : UpgradeFiles) (change : Change) (asked : Asked) (upgrade : UpgradeState) : Type 0 where
  pub list : upgrade.list ≡ listed_in change
  pub maps : maps_of upgrade.certificate ≡ change.maps
  pub settings : upgrade.settings ≡ old_settings change asked
  pub properties : properties_of upgrade.data_file ≡ change.new_properties
  pub old_fingerprint : upgrade.old_fingerprint ≡ fingerprint (old_settings change asked) files.old_table.now files.old_data.now
  pub new_fingerprint : upgrade.new_fingerprint ≡ fingerprint (new_settings change asked) files.new_table.now files.new_data.now

-- Whether it affects a text of UTF-8. A changed text occurs in order in what is read of it, or a changed range has a code
-- point of that.
abbrev pub is_affected_in : UpgradeState → List ℕ → Bool
is_affected_in upgrade text = is_affected_by upgrade.list (written_text upgrade.settings.numbers (properties_of upgrade.data_file) (chars text)).points

-- a stored key put through its maps
abbrev pub rekeyed_in : UpgradeState → List ℕ → Option (List ℕ)
rekeyed_in upgrade key = moved_key (maps_of upgrade.certificate) upgrade.settings.depth upgrade.settings.weighting key

-- ---- Stored keys

-- what keys go by under the old table and its data file, and under the new ones
abbrev pub old_keying : Change → Asked → Keying
old_keying change asked = keying asked change.old change.old_properties

abbrev pub new_keying : Change → Asked → Keying
new_keying change asked = keying asked change.new change.new_properties

-- What is true of stored keys by an upgrade from the old edition of a change to its new one.
pub record KeysAreRenewed (change : Change) (asked : Asked) (upgrade : UpgradeState) : Type 0 where
  -- the old key of a text that is not affected, put through the maps, is its new key
  pub renewed : (text : List ℕ) → IsUtf8 text → is_affected_in upgrade text ≡ false →
      rekeyed_in upgrade (key_of_bytes (old_keying change asked) text) ≡ Some (key_of_bytes (new_keying change asked) text)
  -- and all that an accepted change promises: two such texts compare as before, and stored keys have the order of the new edition
  pub texts : UnaffectedTextsStay change (old_reading change) (new_reading change)
