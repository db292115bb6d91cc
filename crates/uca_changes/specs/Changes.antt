-- Changes from an old table and its data file to a new table and its data file, and when one is accepted: nine conditions.
use Rattle.std.specs.Prelude.{◌≡◌, ℕ, List, Option, None, IsTrue, Contains}
use Rattle.std.specs.List.{AllByRecursion}
use Rattle.uca_weights.specs.declared.Asked.{Asked}
use Rattle.uca_weights.specs.declared.Settings.{Settings}
use Rattle.uca_weights.specs.declared.Weighting.{Weighting}
use Rattle.uca_weights.specs.AskedSettings.{settings_by, weighting_by}
use Rattle.uca_values.specs.declared.CodePointRange.{CodePointRange}
use Rattle.uca_values.specs.Content.{Entry, TableContent, Properties, IsTable}
use Rattle.uca_values.specs.Ranges.{is_within}
use Rattle.uca_check.specs.WellFormed.{IsWellFormed}
use Rattle.uca_text.specs.Occurring.{OccursInOrder}
use Rattle.uca_elements.specs.Rows.{IsKey, rows_of}
use Rattle.uca_elements.specs.Collations.{Collation, collation_under}
use Rattle.uca_changes.specs.Points.{IsSamePair, IsSamePoint, OutsideOf}
use Rattle.uca_tailorings.specs.Images.{Maps, AreRisingMaps}
use Rattle.uca_tailorings.specs.KeptRows.{IsKeptRow, IsKnownRow}
use Rattle.uca_tailorings.specs.Tailorings.{IsCovered}
use Rattle.uca_changes.specs.declared.conditions.ChangeCondition.{ChangeCondition}
use Rattle.uca_changes.specs.declared.conditions.ChangeCondition.TheVariants.{OldIllFormed, NewIllFormed, RangeChanged, Uncovered, RowChanged, RowMissing, RowExtra, PointChanged, SettingChanged}

-- An old table and a new one, and what the data file of each says of code points. The texts and the ranges of code points that
-- are listed as changed, and the images of the old table's weights.
pub record Change : Type 0 where
  pub old : TableContent
  pub old_properties : Properties
  pub new : TableContent
  pub new_properties : Properties
  pub texts : List (List ℕ)
  pub ranges : List CodePointRange
  pub maps : Maps

-- what is true of every change, by what its parts are
pub record IsChange (change : Change) : Type 0 where
  pub old : IsTable change.old
  pub new : IsTable change.new
  pub maps : AreRisingMaps change.maps

-- what texts are read by before the change and after it
abbrev pub old_reading : Change → Collation
old_reading change = collation_under change.old change.old_properties

abbrev pub new_reading : Change → Collation
new_reading change = collation_under change.new change.new_properties

-- the weighting of a run over the old table and of one over the new table, where both are asked for this one or for none
abbrev pub old_weighting : Change → Option Weighting → Weighting
old_weighting change asked = weighting_by asked change.old.header.setting

abbrev pub new_weighting : Change → Option Weighting → Weighting
new_weighting change asked = weighting_by asked change.new.header.setting

-- the settings of these runs
abbrev pub old_settings : Change → Asked → Settings
old_settings change asked = settings_by asked change.old.header.setting

abbrev pub new_settings : Change → Asked → Settings
new_settings change asked = settings_by asked change.new.header.setting

-- ---- What is listed

abbrev pub IsChangedText : Change → List ℕ → Type 0
IsChangedText change text = Contains change.texts text

abbrev pub IsChangedPoint : Change → ℕ → Type 0
IsChangedPoint change point = IsTrue (is_within change.ranges point)

-- A text, as code points in Normalization Form D, that the change leaves as it is. No changed text's code points all occur in
-- it, in their order, and none of its code points lies in a changed range.
pub record IsUnaffected (change : Change) (points : List ℕ) : Type 0 where
  pub texts : AllByRecursion (λ text. ¬ (OccursInOrder text points)) change.texts
  pub outside : AllByRecursion (λ point. ¬ (IsChangedPoint change point)) points

-- ---- Conditions

-- what is true of each code point outside of the changed ranges
abbrev pub OutsideRanges : Change → (ℕ → Type 0) → Type 0
OutsideRanges change P = OutsideOf change.ranges P

-- what is true of each old row whose key is not listed
abbrev pub OfUnlistedRows : Change → (Entry → Type 0) → Type 0
OfUnlistedRows change P = AllByRecursion (λ row. ¬ (IsChangedText change row.key) → P row) change.old.rows

-- each condition by its name, which is that of its failure
abbrev pub Meets : Change → ChangeCondition → Type 0
Meets change OldIllFormed = IsWellFormed change.old_properties.class change.old.rows
Meets change NewIllFormed = IsWellFormed change.new_properties.class change.new.rows
Meets change RangeChanged = OutsideRanges change (IsSamePair change.old.header.ranges change.new.header.ranges)
Meets change Uncovered = OfUnlistedRows change (λ row. AllByRecursion (IsCovered change.maps) row.elements)
Meets change RowChanged = AllByRecursion (IsKeptRow change.maps (IsChangedText change) (rows_of change.new.rows)) change.old.rows
Meets change RowMissing = OfUnlistedRows change (λ row. IsKey (rows_of change.new.rows) row.key)
Meets change RowExtra = AllByRecursion (IsKnownRow (IsChangedText change) (rows_of change.old.rows)) change.new.rows
Meets change PointChanged = OutsideRanges change (IsSamePoint change.old_properties change.new_properties)
Meets change SettingChanged = old_weighting change None ≡ new_weighting change None

-- a change is accepted where all conditions are met
abbrev pub IsAcceptedChange : Change → Type 0
IsAcceptedChange change = (condition : ChangeCondition) → Meets change condition

-- the conditions are numbered from 1
abbrev pub number_of : ChangeCondition → ℕ
number_of OldIllFormed = 1
number_of NewIllFormed = 2
number_of RangeChanged = 3
number_of Uncovered = 4
number_of RowChanged = 5
number_of RowMissing = 6
number_of RowExtra = 7
number_of PointChanged = 8
number_of SettingChanged = 9
