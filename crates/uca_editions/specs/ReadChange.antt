-- The change that was read of its files.
use Rattle.uca_values.specs.Content.{properties_of}
use Rattle.uca_tailorings.specs.Inputs.{maps_of}
use Rattle.uca_changes.specs.Changes.{Change}
use Rattle.uca_editions.specs.declared.files.ChangeFiles.{ChangeFiles}

abbrev pub change_of : {A : Type 0} → ChangeFiles A → Change
change_of files = record {
  old = files.editions.old.table;
  old_properties = properties_of files.editions.old.properties;
  new = files.editions.new.table;
  new_properties = properties_of files.editions.new.properties;
  texts = files.listed.list.texts;
  ranges = files.listed.list.ranges;
  maps = maps_of files.listed.certificate;
}
