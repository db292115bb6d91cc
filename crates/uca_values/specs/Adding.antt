-- One more range: the properties that it gives, and why it is rejected.
use Rattle.std.specs.Prelude.{◌≡◌, ℕ, ◌+◌, ◌<◌, ◌≤◌, ⊤, length, ◌||◌, if◌then◌else◌}
use Rattle.uca_values.specs.declared.ClassRange.{ClassRange}
use Rattle.uca_values.specs.declared.CodePointRange.{CodePointRange}
use Rattle.uca_values.specs.declared.characters.RangeFault.{RangeFault}
use Rattle.uca_values.specs.declared.characters.RangeFault.TheVariants as faults
use Rattle.uca_values.specs.Ranges.{is_between}
use Rattle.uca_values.specs.Content.{Properties, DataContent, properties_of, HasClassBetween, HasHanBetween}

-- the class on the range, and elsewhere what there was
abbrev pub with_class : ClassRange → Properties → Properties
with_class r properties = record properties { class = λ point. if is_between r.first r.last point then r.class else properties.class point }

abbrev pub with_core : CodePointRange → Properties → Properties
with_core r properties = record properties { is_core = λ point. is_between r.first r.last point || properties.is_core point }

abbrev pub with_other : CodePointRange → Properties → Properties
with_other r properties = record properties { is_other = λ point. is_between r.first r.last point || properties.is_other point }

-- the range is added: it is not empty, none of its code points had a class, there was room, and there is one
-- more range
pub record AddsClass (old : DataContent) (r : ClassRange) (new : DataContent) : Type 0 where
  pub rising : r.first ≤ r.last
  pub free : HasClassBetween (properties_of old) r.first r.last → ⊥
  pub gives : properties_of new ≡ with_class r (properties_of old)
  pub room : length old.classes < 4096
  pub classes : length new.classes ≡ length old.classes + 1
  pub core : length new.core ≡ length old.core
  pub other : length new.other ≡ length old.other

pub record AddsCore (old : DataContent) (r : CodePointRange) (new : DataContent) : Type 0 where
  pub rising : r.first ≤ r.last
  pub free : HasHanBetween (properties_of old) r.first r.last → ⊥
  pub gives : properties_of new ≡ with_core r (properties_of old)
  pub classes : length new.classes ≡ length old.classes
  pub room : length old.core < 4096
  pub core : length new.core ≡ length old.core + 1
  pub other : length new.other ≡ length old.other

pub record AddsOther (old : DataContent) (r : CodePointRange) (new : DataContent) : Type 0 where
  pub rising : r.first ≤ r.last
  pub free : HasHanBetween (properties_of old) r.first r.last → ⊥
  pub gives : properties_of new ≡ with_other r (properties_of old)
  pub classes : length new.classes ≡ length old.classes
  pub core : length new.core ≡ length old.core
  pub room : length old.other < 4096
  pub other : length new.other ≡ length old.other + 1

-- Why a range is not added to the `count` ranges of its kind. It is empty; one of its code points has the
-- property that it gives; there are 4,096 ranges; or an allocation failed.
abbrev pub RefusesRange : (ℕ → ℕ → Type 0) → ℕ → ℕ → ℕ → RangeFault → Type 0
RefusesRange HasBetween count first last faults.Empty = last < first
RefusesRange HasBetween count first last faults.Overlap = (first ≤ last) × HasBetween first last
RefusesRange HasBetween count first last faults.Limit = (first ≤ last) × (HasBetween first last → ⊥) × (4096 ≤ count)
RefusesRange HasBetween count first last faults.Memory = ⊤

abbrev pub RefusesClass : DataContent → ClassRange → RangeFault → Type 0
RefusesClass old r fault = RefusesRange (HasClassBetween (properties_of old)) (length old.classes) r.first r.last fault

abbrev pub RefusesCore : DataContent → CodePointRange → RangeFault → Type 0
RefusesCore old r fault = RefusesRange (HasHanBetween (properties_of old)) (length old.core) r.first r.last fault

abbrev pub RefusesOther : DataContent → CodePointRange → RangeFault → Type 0
RefusesOther old r fault = RefusesRange (HasHanBetween (properties_of old)) (length old.other) r.first r.last fault
