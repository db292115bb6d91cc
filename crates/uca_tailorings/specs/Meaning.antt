-- What an accepted tailoring means for its relations and for all texts.
use Rattle.std.specs.Prelude.{◌≡◌, ◌⊎◌, ℕ, ◌<◌, List, ◌++◌, Bool, true, false, Option, Some, None, ⊤, map, Contains}
use Rattle.std.specs.List.{AllByRecursion}
use Rattle.std.specs.declared.cmp.Ordering.TheVariants.{Less, Equal, Greater}
use Rattle.uca_weights.specs.declared.Depth.{Depth}
use Rattle.uca_weights.specs.declared.Element.{Element}
use Rattle.uca_weights.specs.declared.Level.{Level}
use Rattle.uca_weights.specs.declared.Weighting.{Weighting}
use Rattle.uca_weights.specs.declared.Weighting.TheVariants.{NonIgnorable, Shifted}
use Rattle.uca_weights.specs.Levels.{weight, level_of, level_number}
use Rattle.uca_values.specs.Content.{Entry}
use Rattle.uca_values.specs.Implicit.{implicit}
use Rattle.uca_check.specs.WellFormed.{IsWellFormed}
use Rattle.uca_text.specs.Texts.{NfdText}
use Rattle.uca_text.specs.Limits.{IsNormal}
use Rattle.uca_relations.specs.declared.Relation.{Relation}
use Rattle.uca_relations.specs.Relations.{IsUntouched}
use Rattle.uca_elements.specs.Collations.{elements_of}
use Rattle.uca_order.specs.Levels.{Comparison, compared}
use Rattle.uca_order.specs.Depths.{read_text, compared_at, key_at}
use Rattle.uca_tailorings.specs.Images.{KeepAllWeights}
use Rattle.uca_tailorings.specs.Tailorings.{Tailoring, base_reading, tailored_reading, anchor_elements, expansion_elements, IsPlacedAt, IsNewWeight, IsFreshWeight, IsBetween, AllRelations}

-- ---- Relations

-- how the anchor's side compares with the target, where the relation is or is not a before-relation
abbrev pub stands : Bool → Option Level → Comparison
stands before None = record { order = Equal; level = 0 }
stands false (Some level) = record { order = Less; level = level_number level }
stands true (Some level) = record { order = Greater; level = level_number level }

-- the elements of anchor and expansion under the tailored table
abbrev pub source_elements : Tailoring → Relation → List Element
source_elements tailoring r = anchor_elements tailoring r ++ expansion_elements tailoring r

-- Under the tailored table, anchor and expansion differ from the target at the level of the relation's strength. They
-- come before it, or after it in a before-relation. At identical strength they differ at no level.
abbrev pub HoldsUnder : Weighting → Tailoring → Relation → Type 0
HoldsUnder weighting tailoring r = compared weighting (source_elements tailoring r) (elements_of (tailored_reading tailoring) r.target) ≡ stands r.before (level_of r.strength)

abbrev pub Holds : Tailoring → Relation → Type 0
Holds = HoldsUnder NonIgnorable

-- no element is variable
abbrev pub AreNotVariable : List Element → Type 0
AreNotVariable es = AllByRecursion (λ (e : Element). e.mark ≡ false) es

-- where no element of anchor and expansion is variable, that is so under shifted weighting too
abbrev pub HoldsShifted : Tailoring → Relation → Type 0
HoldsShifted tailoring r = AreNotVariable (source_elements tailoring r) → HoldsUnder Shifted tailoring r

-- an element of some tailored row, or of the implicit weights of some code point, has the weight at the level
pub record IsRowWeight (tailoring : Tailoring) (level : Level) (w : ℕ) : Type 0 where
  pub row : Entry
  pub is_row : Contains tailoring.tailored.rows row
  pub is_weight : Contains (map (weight level) row.elements) w

pub record IsImplicitWeight (tailoring : Tailoring) (level : Level) (w : ℕ) : Type 0 where
  pub point : ℕ
  pub is_point : point < 0x11_0000
  pub is_weight : Contains (map (weight level) (implicit tailoring.tailored.header.ranges tailoring.properties point)) w

-- a weight of the tailored table
abbrev pub IsTailoredWeight : Tailoring → Level → ℕ → Type 0
IsTailoredWeight tailoring level w = IsRowWeight tailoring level w ⊎ IsImplicitWeight tailoring level w

-- The new weight is new, and of the weights of the tailored table only those of later relations lie strictly between it and the
-- anchor's.
pub record StandsNearestAt (tailoring : Tailoring) (before after : List Relation) (level : Level) (old new : ℕ) : Type 0 where
  pub fresh : IsFreshWeight tailoring before after level new
  pub between : (w : ℕ) → IsTailoredWeight tailoring level w → IsBetween old new w → IsNewWeight tailoring level w after

-- the target of a relation of strength 1 to 3 is next to its anchor
abbrev pub NearestAt : Tailoring → List Relation → Relation → List Relation → Option Level → Type 0
NearestAt tailoring before r after None = ⊤
NearestAt tailoring before r after (Some level) = (old : ℕ) × (new : ℕ) × IsPlacedAt tailoring r level old new × StandsNearestAt tailoring before after level old new

abbrev pub StandsNearest : Tailoring → List Relation → Relation → List Relation → Type 0
StandsNearest tailoring before r after = NearestAt tailoring before r after (level_of r.strength)

-- ---- Texts

-- two texts compare under the tailored table as under the base, by order and difference level
abbrev pub CompareAsBefore : Tailoring → Depth → Weighting → NfdText → NfdText → Type 0
CompareAsBefore tailoring depth weighting left right =
    compared_at depth weighting (read_text (tailored_reading tailoring) left) (read_text (tailored_reading tailoring) right)
    ≡ compared_at depth weighting (read_text (base_reading tailoring) left) (read_text (base_reading tailoring) right)

-- a text has the same key under both tables
abbrev pub KeepsKey : Tailoring → Depth → Weighting → NfdText → Type 0
KeepsKey tailoring depth weighting text =
    key_at depth weighting (read_text (tailored_reading tailoring) text) ≡ key_at depth weighting (read_text (base_reading tailoring) text)

-- ---- Everything that an accepted tailoring means

pub record IsFaithful (tailoring : Tailoring) : Type 0 where
  -- the tailored table is well-formed
  pub well_formed : IsWellFormed tailoring.properties.class tailoring.tailored.rows
  -- Each relation holds under non-ignorable weighting. Where no element of its anchor and its expansion is variable, it
  -- holds under shifted weighting too. Each target of strength 1 to 3 is next to its anchor.
  pub holds : AllByRecursion (Holds tailoring) tailoring.relations
  pub shifted : AllByRecursion (HoldsShifted tailoring) tailoring.relations
  pub nearest : AllRelations (StandsNearest tailoring) tailoring.relations
  -- texts in which no target occurs in order compare as before, at either depth and under either weighting
  pub untouched : (depth : Depth) (weighting : Weighting) (left right : NfdText) → IsNormal left → IsNormal right →
      IsUntouched tailoring.relations left.points → IsUntouched tailoring.relations right.points → CompareAsBefore tailoring depth weighting left right
  -- and where no weight is changed, they keep their keys
  pub keys : KeepAllWeights tailoring.maps → (depth : Depth) (weighting : Weighting) (text : NfdText) → IsNormal text →
      IsUntouched tailoring.relations text.points → KeepsKey tailoring depth weighting text
