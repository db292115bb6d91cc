-- The change that the values of an audit stand for, and what an audit that accepts it promises.
use Rattle.uca_values.specs.Content.{properties_of}
use Rattle.uca_elements.specs.Collations.{Collation}
use Rattle.uca_tailorings.specs.Inputs.{maps_of}
use Rattle.uca_tailorings.specs.Laws.{ReadsAs}
use Rattle.uca_changes.specs.Changes.{Change, old_reading, new_reading}
use Rattle.uca_changes.specs.Laws.{UnaffectedTextsStay}
use Rattle.uca_editions.specs.declared.inputs.ChangeInputs.{ChangeInputs}

abbrev pub change_in : {T : Type 0} → ChangeInputs T → Change
change_in inputs = record {
  old = inputs.old.now;
  old_properties = properties_of inputs.old_data.now;
  new = inputs.new.now;
  new_properties = properties_of inputs.new_data.now;
  texts = inputs.changes.now.texts;
  ranges = inputs.changes.now.ranges;
  maps = maps_of inputs.certificate.now;
}

-- by any lookups of the two tables, unaffected texts stay
abbrev pub MeansUnaffectedTextsStay : Change → Type 0
MeansUnaffectedTextsStay change =
    (old new : Collation) → ReadsAs old (old_reading change) → ReadsAs new (new_reading change) → UnaffectedTextsStay change old new
