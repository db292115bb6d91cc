-- Laws of tailorings, as statements.
use Rattle.std.specs.Prelude.{◌≡◌, ◌⊎◌, ℕ, List}
use Rattle.uca_weights.specs.declared.Depth.{Depth}
use Rattle.uca_weights.specs.declared.Weighting.{Weighting}
use Rattle.uca_text.specs.Texts.{NfdText}
use Rattle.uca_text.specs.Limits.{IsNormal}
use Rattle.uca_relations.specs.Relations.{IsUntouched}
use Rattle.uca_elements.specs.Collations.{Collation}
use Rattle.uca_order.specs.Levels.{lexicographic}
use Rattle.uca_order.specs.Depths.{read_text, levels_at, compared_at, key_at}
use Rattle.uca_order.specs.StoredKeys.{stored_level}
use Rattle.uca_tailorings.specs.Images.{KeepAllWeights}
use Rattle.uca_tailorings.specs.Moves.{KeyMoves, IsKeptKey}
use Rattle.uca_tailorings.specs.Tailorings.{Tailoring, IsTailoring, base_reading, tailored_reading, IsAccepted}
use Rattle.uca_tailorings.specs.Meaning.{IsFaithful}

-- Acceptance is about all texts. If a tailoring is accepted, the tailored table is well-formed, each relation holds
-- with its target next to its anchor, and texts that no target touches compare as before.
abbrev pub AcceptedTailoringsAreFaithful : Type 0
AcceptedTailoringsAreFaithful = (tailoring : Tailoring) → IsTailoring tailoring → IsAccepted tailoring → IsFaithful tailoring

-- texts are read so by any lookup of the rows
pub record ReadsAs (given reading : Collation) : Type 0 where
  pub rows : (key : List ℕ) → given.rows key ≡ reading.rows key
  pub ranges : given.ranges ≡ reading.ranges
  pub properties : given.properties ≡ reading.properties

-- A caller reads texts by other lookups, `old` of the base and `new` of the tailored table. Two texts
-- that no target touches compare as before, and so do the bytes of their keys, by order and level. If no weight is
-- changed, a text keeps its key.
pub record UntouchedTextsStay (tailoring : Tailoring) (old new : Collation) : Type 0 where
  pub compared : (depth : Depth) (weighting : Weighting) (left right : NfdText) → IsNormal left → IsNormal right →
      IsUntouched tailoring.relations left.points → IsUntouched tailoring.relations right.points →
      compared_at depth weighting (read_text new left) (read_text new right) ≡ compared_at depth weighting (read_text old left) (read_text old right)
  pub ordered : (depth : Depth) (weighting : Weighting) (left right : NfdText) → IsNormal left → IsNormal right →
      IsUntouched tailoring.relations left.points → IsUntouched tailoring.relations right.points →
      lexicographic (key_at depth weighting (read_text new left)) (key_at depth weighting (read_text new right))
      ≡ lexicographic (key_at depth weighting (read_text old left)) (key_at depth weighting (read_text old right))
  pub levels : (depth : Depth) (weighting : Weighting) (left right : NfdText) → IsNormal left → IsNormal right →
      IsUntouched tailoring.relations left.points → IsUntouched tailoring.relations right.points →
      stored_level (levels_at depth weighting) (key_at depth weighting (read_text new left)) (key_at depth weighting (read_text new right))
      ≡ stored_level (levels_at depth weighting) (key_at depth weighting (read_text old left)) (key_at depth weighting (read_text old right))
  pub keys : KeepAllWeights tailoring.maps → (depth : Depth) (weighting : Weighting) (text : NfdText) → IsNormal text →
      IsUntouched tailoring.relations text.points → key_at depth weighting (read_text new text) ≡ key_at depth weighting (read_text old text)

abbrev pub FaithfulTailoringsKeepUntouchedTexts : Type 0
FaithfulTailoringsKeepUntouchedTexts = (tailoring : Tailoring) (old new : Collation) → IsFaithful tailoring →
    ReadsAs old (base_reading tailoring) → ReadsAs new (tailored_reading tailoring) → UntouchedTextsStay tailoring old new

-- A key that a store has for a text. It was made under the new reading. Or no target touches the text, and the key was kept
-- from the old reading.
abbrev pub IsStoredKey : Tailoring → Collation → Collation → Depth → Weighting → NfdText → List ℕ → Type 0
IsStoredKey tailoring old new depth weighting text key =
    (key ≡ key_at depth weighting (read_text new text))
    ⊎ (IsNormal text × IsUntouched tailoring.relations text.points × IsKeptKey tailoring.maps depth weighting (read_text old text) key)

-- What an accepted tailoring means for stored keys, by lookups `old` of the base and `new` of the tailored table.
pub record KeysMove (tailoring : Tailoring) (old new : Collation) : Type 0 where
  -- the key of a text that no target touches is put through the maps
  pub moves : (text : NfdText) → IsNormal text → IsUntouched tailoring.relations text.points →
      KeyMoves tailoring.maps (read_text old text) (read_text new text)
  -- the keys of a store compare as their texts do under the new reading, by order and level
  pub ordered : (depth : Depth) (weighting : Weighting) (left right : NfdText) (left_key right_key : List ℕ) →
      IsStoredKey tailoring old new depth weighting left left_key → IsStoredKey tailoring old new depth weighting right right_key →
      lexicographic left_key right_key ≡ (compared_at depth weighting (read_text new left) (read_text new right)).order
  pub levels : (depth : Depth) (weighting : Weighting) (left right : NfdText) (left_key right_key : List ℕ) →
      IsStoredKey tailoring old new depth weighting left left_key → IsStoredKey tailoring old new depth weighting right right_key →
      stored_level (levels_at depth weighting) left_key right_key ≡ (compared_at depth weighting (read_text new left) (read_text new right)).level

abbrev pub KeysMoveByMaps : Type 0
KeysMoveByMaps = (tailoring : Tailoring) (old new : Collation) → IsTailoring tailoring → IsAccepted tailoring →
    ReadsAs old (base_reading tailoring) → ReadsAs new (tailored_reading tailoring) → KeysMove tailoring old new
