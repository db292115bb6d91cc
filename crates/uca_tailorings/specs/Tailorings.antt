-- Tailorings, and when one is accepted: eleven conditions on a base, a tailored table, the relations of rules, and maps of weights.
use Rattle.std.specs.Prelude.{◌≡◌, ◌≢◌, ◌⊎◌, ℕ, ◌<◌, List, [], ◌∷◌, ◌++◌, Option, Some, None, IsSome, ⊤, Contains}
use Rattle.std.specs.List.{AllByRecursion}
use Rattle.uca_weights.specs.declared.Element.{Element}
use Rattle.uca_weights.specs.declared.Level.{Level}
use Rattle.uca_weights.specs.declared.Level.TheVariants.{One, Two, Three}
use Rattle.uca_weights.specs.Levels.{weight, level_of}
use Rattle.uca_weights.specs.Maps.{Sends}
use Rattle.uca_values.specs.Content.{Entry, TableContent, Properties, IsTable}
use Rattle.uca_check.specs.WellFormed.{IsWellFormed}
use Rattle.uca_text.specs.Texts.{NfdText}
use Rattle.uca_relations.specs.declared.Relation.{Relation}
use Rattle.uca_relations.specs.Relations.{IsTarget, AreRules}
use Rattle.uca_elements.specs.Rows.{IsKey, rows_of}
use Rattle.uca_elements.specs.Collations.{Collation, collation_under, elements_of}
use Rattle.uca_weights.specs.PerLevel.{at_level}
use Rattle.uca_tailorings.specs.Images.{Maps, AreRisingMaps}
use Rattle.uca_tailorings.specs.KeptRows.{IsKeptRow, IsKnownRow}
use Rattle.uca_tailorings.specs.Placing.{IsLow, IsAnchor, placed, IsOnSide}
use Rattle.uca_tailorings.specs.declared.conditions.Condition.{Condition}
use Rattle.uca_tailorings.specs.declared.conditions.Condition.TheVariants.{BaseIllFormed, TailoredIllFormed, Header, Uncovered, RowChanged, RowMissing, RowExtra, Anchor, NotPlaced, NotFresh, NotNearest}

-- a base table, the table that is tailored from it, what a data file says of code points, the relations of rules, and
-- the images of the base's weights
pub record Tailoring : Type 0 where
  pub base : TableContent
  pub tailored : TableContent
  pub properties : Properties
  pub relations : List Relation
  pub maps : Maps

-- what is true of every tailoring, by what its parts are
pub record IsTailoring (tailoring : Tailoring) : Type 0 where
  pub base : IsTable tailoring.base
  pub tailored : IsTable tailoring.tailored
  pub rules : AreRules tailoring.relations
  pub maps : AreRisingMaps tailoring.maps

-- ---- Reading

-- what texts are read by under the base
abbrev pub base_reading : Tailoring → Collation
base_reading tailoring = collation_under tailoring.base tailoring.properties

-- and under the tailored table
abbrev pub tailored_reading : Tailoring → Collation
tailored_reading tailoring = collation_under tailoring.tailored tailoring.properties

-- the elements of a relation's anchor under the tailored table
abbrev pub anchor_elements : Tailoring → Relation → List Element
anchor_elements tailoring r = elements_of (tailored_reading tailoring) r.anchor

-- the elements of an expansion, which has none where it is not there
abbrev pub elements_of_expansion : Collation → Option NfdText → List Element
elements_of_expansion c None = []
elements_of_expansion c (Some text) = elements_of c text

abbrev pub expansion_elements : Tailoring → Relation → List Element
expansion_elements tailoring r = elements_of_expansion (tailored_reading tailoring) r.expansion

-- the target's row of the tailored table has these elements
abbrev pub IsTargetRow : Tailoring → Relation → List Element → Type 0
IsTargetRow tailoring r es = rows_of tailoring.tailored.rows r.target.points ≡ Some es

-- ---- Conditions on rows

-- each weight of the element has an image at its level
pub record IsCovered (maps : Maps) (e : Element) : Type 0 where
  pub primary : IsSome (maps.primary e.primary)
  pub secondary : IsSome (maps.secondary e.secondary)
  pub tertiary : IsSome (maps.tertiary e.tertiary)

abbrev pub IsCoveredRow : Tailoring → Entry → Type 0
IsCoveredRow tailoring row = AllByRecursion (IsCovered tailoring.maps) row.elements

-- where the key is no target, its tailored row, if there is one, is the image of the base row
abbrev pub IsUnchangedRow : Tailoring → Entry → Type 0
IsUnchangedRow tailoring row = IsKeptRow tailoring.maps (IsTarget tailoring.relations) (rows_of tailoring.tailored.rows) row

-- the key of the row has a tailored row, and so has the target of the relation
abbrev pub IsPresentRow : Tailoring → Entry → Type 0
IsPresentRow tailoring row = IsKey (rows_of tailoring.tailored.rows) row.key

abbrev pub IsPresentTarget : Tailoring → Relation → Type 0
IsPresentTarget tailoring r = IsKey (rows_of tailoring.tailored.rows) r.target.points

-- the key of the tailored row is a base key or a target
abbrev pub IsExpectedRow : Tailoring → Entry → Type 0
IsExpectedRow tailoring row = IsKnownRow (IsTarget tailoring.relations) (rows_of tailoring.base.rows) row

-- ---- Conditions on relations alone

-- the anchor's elements have a last one that a new weight can be put on
abbrev pub HasAnchorAt : Tailoring → Relation → Option Level → Type 0
HasAnchorAt tailoring r None = ⊤
HasAnchorAt tailoring r (Some level) = (before : List Element) × (last : Element) × (trailing : List Element) × IsAnchor level (anchor_elements tailoring r) before last trailing

abbrev pub HasAnchor : Tailoring → Relation → Type 0
HasAnchor tailoring r = HasAnchorAt tailoring r (level_of r.strength)

-- The target has the anchor's elements and then the expansion's. In the anchor's, the last weight at the level is not
-- the old one but the new one, on the relation's side of the old one.
pub record IsPlacedAt (tailoring : Tailoring) (r : Relation) (level : Level) (old new : ℕ) : Type 0 where
  pub strength : level_of r.strength ≡ Some level
  pub before : List Element
  pub last : Element
  pub trailing : List Element
  pub anchor : IsAnchor level (anchor_elements tailoring r) before last trailing
  pub old_weight : weight level last ≡ old
  pub side : IsOnSide r.before old new
  pub row : IsTargetRow tailoring r (placed level before last (expansion_elements tailoring r) new)

-- the target has the elements that its relation asks for
abbrev pub IsPlacedBy : Tailoring → Relation → Option Level → Type 0
IsPlacedBy tailoring r None = IsTargetRow tailoring r (anchor_elements tailoring r ++ expansion_elements tailoring r)
IsPlacedBy tailoring r (Some level) = (old : ℕ) × (new : ℕ) × IsPlacedAt tailoring r level old new

abbrev pub IsPlaced : Tailoring → Relation → Type 0
IsPlaced tailoring r = IsPlacedBy tailoring r (level_of r.strength)

-- ---- Conditions on new weights

-- one of the relations puts this new weight at the level
abbrev pub IsNewWeight : Tailoring → Level → ℕ → List Relation → Type 0
IsNewWeight tailoring level w [] = ⊥
IsNewWeight tailoring level w (r ∷ relations) = ((old : ℕ) × IsPlacedAt tailoring r level old w) ⊎ IsNewWeight tailoring level w relations

-- the weight that implicit weights have at levels 2 and 3
abbrev pub IsPairWeight : Level → ℕ → Type 0
IsPairWeight One w = ⊥
IsPairWeight Two w = w ≡ 0x20
IsPairWeight Three w = w ≡ 2

-- the image of a weight other than 0 that an element of some base row has at the level
pub record IsImageOfBase (tailoring : Tailoring) (level : Level) (w : ℕ) : Type 0 where
  pub row : Entry
  pub is_row : Contains tailoring.base.rows row
  pub element : Element
  pub is_element : Contains row.elements element
  pub some : weight level element ≢ 0
  pub image : Sends (at_level level tailoring.maps) (weight level element) w

-- a weight that the base gave the tailored table
abbrev pub IsKnownWeight : Tailoring → Level → ℕ → Type 0
IsKnownWeight tailoring level w = IsImageOfBase tailoring level w ⊎ IsPairWeight level w

-- the weight lies strictly between the two; either of the two may be the greater
abbrev pub IsBetween : ℕ → ℕ → ℕ → Type 0
IsBetween old new w = ((old < w) × (w < new)) ⊎ ((new < w) × (w < old))

-- a new weight that the base did not give and no other relation has; at level 1 it is below those of implicit weights
pub record IsFreshWeight (tailoring : Tailoring) (before after : List Relation) (level : Level) (new : ℕ) : Type 0 where
  pub unknown : ¬ (IsKnownWeight tailoring level new)
  pub own_before : ¬ (IsNewWeight tailoring level new before)
  pub own_after : ¬ (IsNewWeight tailoring level new after)
  pub low : IsLow level new

-- no weight that the base gave, and no earlier relation's new weight, lies strictly between
pub record IsNearestWeight (tailoring : Tailoring) (before : List Relation) (level : Level) (old new : ℕ) : Type 0 where
  pub known : (w : ℕ) → IsKnownWeight tailoring level w → ¬ (IsBetween old new w)
  pub earlier : (w : ℕ) → IsNewWeight tailoring level w before → ¬ (IsBetween old new w)

-- each new weight of a relation is fresh, where these relations come before it and after it
abbrev pub IsFresh : Tailoring → List Relation → Relation → List Relation → Type 0
IsFresh tailoring before r after = (level : Level) (old new : ℕ) → IsPlacedAt tailoring r level old new → IsFreshWeight tailoring before after level new

abbrev pub IsNearest : Tailoring → List Relation → Relation → List Relation → Type 0
IsNearest tailoring before r after = (level : Level) (old new : ℕ) → IsPlacedAt tailoring r level old new → IsNearestWeight tailoring before level old new

-- ---- All conditions

-- each relation has the property, which may speak of the relations before it and after it
abbrev pub AllRelations : (List Relation → Relation → List Relation → Type 0) → List Relation → Type 0
AllRelations P relations = (before : List Relation) (r : Relation) (after : List Relation) → relations ≡ before ++ r ∷ after → P before r after

-- each condition by its name, which is that of its failure
abbrev pub Meets : Tailoring → Condition → Type 0
Meets tailoring BaseIllFormed = IsWellFormed tailoring.properties.class tailoring.base.rows
Meets tailoring TailoredIllFormed = IsWellFormed tailoring.properties.class tailoring.tailored.rows
Meets tailoring Header = tailoring.base.header ≡ tailoring.tailored.header
Meets tailoring Uncovered = AllByRecursion (IsCoveredRow tailoring) tailoring.base.rows
Meets tailoring RowChanged = AllByRecursion (IsUnchangedRow tailoring) tailoring.base.rows
Meets tailoring RowMissing = AllByRecursion (IsPresentRow tailoring) tailoring.base.rows × AllByRecursion (IsPresentTarget tailoring) tailoring.relations
Meets tailoring RowExtra = AllByRecursion (IsExpectedRow tailoring) tailoring.tailored.rows
Meets tailoring Anchor = AllByRecursion (HasAnchor tailoring) tailoring.relations
Meets tailoring NotPlaced = AllByRecursion (IsPlaced tailoring) tailoring.relations
Meets tailoring NotFresh = AllRelations (IsFresh tailoring) tailoring.relations
Meets tailoring NotNearest = AllRelations (IsNearest tailoring) tailoring.relations

-- a tailoring is accepted where all conditions are met
abbrev pub IsAccepted : Tailoring → Type 0
IsAccepted tailoring = (condition : Condition) → Meets tailoring condition
