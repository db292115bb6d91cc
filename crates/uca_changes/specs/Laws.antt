-- Laws of changes, as statements. A text is given as its code points before normalization.
use Rattle.std.specs.Prelude.{◌≡◌, ◌⊎◌, ℕ, List, [], Option, map}
use Rattle.std.specs.Char.{IsScalar}
use Rattle.std.specs.List.{AllByRecursion}
use Rattle.unicode_normalization.specs.Forms.{nfd}
use Rattle.uca_weights.specs.declared.Asked.{Asked}
use Rattle.uca_weights.specs.declared.Numbers.{Numbers}
use Rattle.uca_weights.specs.declared.Weighting.{Weighting}
use Rattle.uca_elements.specs.Collations.{Collation}
use Rattle.uca_order.specs.Levels.{lexicographic}
use Rattle.uca_order.specs.Depths.{levels_at, read_points, text_key, texts_compared, written}
use Rattle.uca_order.specs.StoredKeys.{stored_level}
use Rattle.uca_tailorings.specs.Moves.{KeyMoves, IsKeptKey}
use Rattle.uca_tailorings.specs.Tailorings.{Tailoring, IsTailoring, IsAccepted}
use Rattle.uca_tailorings.specs.Laws.{ReadsAs}
use Rattle.uca_changes.specs.Changes.{Change, IsChange, old_reading, new_reading, old_weighting, new_weighting, old_settings, new_settings, IsUnaffected, IsAcceptedChange}

-- What is read of the text is left as it is by the change. In Normalization Form D, this and the text have Unicode scalar
-- values alone.
pub record IsUnaffectedText (numbers : Numbers) (change : Change) (text : List ℕ) : Type 0 where
  pub scalars : AllByRecursion IsScalar (nfd text)
  pub read_scalars : AllByRecursion IsScalar (nfd (written numbers text))
  pub unaffected : IsUnaffected change (nfd (written numbers text))

-- A key that a store has for a text, where each run was asked for these settings. It was made under the new reading. Or the text
-- is unaffected, and the key was kept from the old reading.
abbrev pub IsStoredKey : Change → Collation → Collation → Asked → List ℕ → List ℕ → Type 0
IsStoredKey change old new asked text key =
    (key ≡ text_key new (new_settings change asked) text)
    ⊎ (IsUnaffectedText asked.numbers change text
    × IsKeptKey change.maps asked.depth (old_weighting change asked.weighting) (read_points old asked.numbers text) key)

-- What an accepted change means, by lookups `old` of the old table and `new` of the new one. A weighting may be asked for, as by an
-- option of a command. Where none is, runs over the old table go by what it says, and runs over the new one by what that one says.
pub record UnaffectedTextsStay (change : Change) (old new : Collation) : Type 0 where
  -- this is the same weighting
  pub chosen : (asked : Option Weighting) → new_weighting change asked ≡ old_weighting change asked
  -- the elements of an unaffected text are the images of the old ones, and its key is put through the maps
  pub moves : (numbers : Numbers) (text : List ℕ) → IsUnaffectedText numbers change text →
      KeyMoves change.maps (read_points old numbers text) (read_points new numbers text)
  -- two such texts compare as before, by order and level
  pub compared : (asked : Asked) (left right : List ℕ) → IsUnaffectedText asked.numbers change left → IsUnaffectedText asked.numbers change right →
      texts_compared new (new_settings change asked) left right ≡ texts_compared old (old_settings change asked) left right
  -- the keys of a store compare as their texts do under the new reading
  pub ordered : (asked : Asked) (left right left_key right_key : List ℕ) →
      IsStoredKey change old new asked left left_key → IsStoredKey change old new asked right right_key →
      lexicographic left_key right_key ≡ (texts_compared new (new_settings change asked) left right).order
  pub levels : (asked : Asked) (left right left_key right_key : List ℕ) →
      IsStoredKey change old new asked left left_key → IsStoredKey change old new asked right right_key →
      stored_level (levels_at asked.depth (new_weighting change asked.weighting)) left_key right_key
      ≡ (texts_compared new (new_settings change asked) left right).level

abbrev pub ChangesKeepUnaffectedTexts : Type 0
ChangesKeepUnaffectedTexts = (change : Change) (old new : Collation) → IsChange change → IsAcceptedChange change →
    ReadsAs old (old_reading change) → ReadsAs new (new_reading change) → UnaffectedTextsStay change old new

-- a tailoring as a change of its base: its targets are the changed texts
abbrev pub change_of : Tailoring → Change
change_of tailoring = record {
  old = tailoring.base;
  old_properties = tailoring.properties;
  new = tailoring.tailored;
  new_properties = tailoring.properties;
  texts = map (λ r. r.target.points) tailoring.relations;
  ranges = [];
  maps = tailoring.maps;
}

abbrev pub TailoringsAreChanges : Type 0
TailoringsAreChanges = (tailoring : Tailoring) → IsTailoring tailoring → IsAccepted tailoring →
    IsChange (change_of tailoring) × IsAcceptedChange (change_of tailoring)
