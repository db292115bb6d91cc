-- Laws of the definitions, as statements.
use Rattle.std.specs.Prelude.{◌≡◌, ◌≢◌, ◌↔◌, ℕ, List, [], ◌∷◌, ◌++◌, true, Option, Some, None, Contains, ⊤}
use Rattle.std.specs.List.{AllByRecursion, flat_map}
use Rattle.uca_weights.specs.declared.Element.{Element}
use Rattle.uca_text.specs.Texts.{Text, code_points}
use Rattle.uca_values.specs.declared.ImplicitRange.{ImplicitRange}
use Rattle.uca_values.specs.Content.{Entry, Properties, keys_of, AreDistinct}
use Rattle.uca_values.specs.Implicit.{implicit}
use Rattle.uca_elements.specs.Rows.{Rows, Keys, is_key, IsKey, rows_of}
use Rattle.uca_elements.specs.Reading.{IsReading, parts, read, collation_elements}
use Rattle.uca_text.specs.Occurring.{OccursInOrder}
use Rattle.uca_elements.specs.Parts.{Part, Row, part_elements, IsPartOf}

-- `read` is a reading, and the only one
abbrev pub OneReading : Type 0
OneReading = (implicit : ℕ → List Element) (rows : Rows) →
    IsReading implicit rows (read implicit rows) × ((E : Text → List Element) → IsReading implicit rows E → (t : Text) → E t ≡ read implicit rows t)

-- the finite map of some rows: its keys are theirs, and where no key comes twice, each key has the elements of its row
pub record AreRowsByKey (rows : List Entry) : Type 0 where
  pub keys : (key : List ℕ) → IsKey (rows_of rows) key ↔ Contains (keys_of rows) key
  pub elements : AreDistinct rows → (key : List ℕ) (elements : List Element) →
      (rows_of rows key ≡ Some elements) ↔ Contains rows (record { key = key; elements = elements })

abbrev pub RowsByKey : Type 0
RowsByKey = (rows : List Entry) → AreRowsByKey rows

-- a text that is a key reads as its row
abbrev pub KeysReadAsRows : Type 0
KeysReadAsRows = (implicit : ℕ → List Element) (rows : Rows) (t : Text) (row : List Element) → t ≢ [] → rows (code_points t) ≡ Some row →
    read implicit rows t ≡ row

-- ---- Readings under two maps of rows

-- both have a row there, and the two are related, or neither has one
abbrev pub AreRelatedRows : (List Element → List Element → Type 0) → Option (List Element) → Option (List Element) → Type 0
AreRelatedRows related None None = ⊤
AreRelatedRows related None (Some new) = ⊥
AreRelatedRows related (Some old) None = ⊥
AreRelatedRows related (Some old) (Some new) = related old new

-- a relation that is kept where lists are put together
abbrev pub IsKeptByAppend : (List Element → List Element → Type 0) → Type 0
IsKeptByAppend related = (es fs gs hs : List Element) → related es fs → related gs hs → related (es ++ gs) (fs ++ hs)

-- where the rows at each key that occurs in order in a text are related, and so are the implicit weights of its code points,
-- its two readings are related
abbrev pub RelatedRowsReadAlike : (List Element → List Element → Type 0) → Type 0
RelatedRowsReadAlike related = (old new : ℕ → List Element) (rows others : Rows) (t : Text) →
    ((key : List ℕ) → OccursInOrder key (code_points t) → AreRelatedRows related (rows key) (others key)) →
    AllByRecursion (λ c. related (old c) (new c)) (code_points t) → related (read old rows t) (read new others t)

-- ---- Parts

-- The parts of texts for a set of keys: each is a key that occurs in order in the text, or a code point of it. Other
-- keys change nothing. A text that is a key is one part.
pub record PartsOfTexts : Type 0 where
  pub each : (keys : Keys) (t : Text) → AllByRecursion (IsPartOf keys t) (parts keys t)
  pub same : (keys others : Keys) (t : Text) → ((key : List ℕ) → OccursInOrder key (code_points t) → keys key ≡ others key) →
      parts keys t ≡ parts others t
  pub key : (keys : Keys) (t : Text) → t ≢ [] → keys (code_points t) ≡ true → parts keys t ≡ Row (code_points t) ∷ []

-- the collation elements of a text are those of its parts
abbrev pub ElementsOfParts : Type 0
ElementsOfParts = (rows : Rows) (ranges : List ImplicitRange) (properties : Properties) (t : Text) →
    collation_elements rows ranges properties t ≡ flat_map (part_elements (implicit ranges properties) rows) (parts (is_key rows) t)

-- two readings have the same parts
pub record HasSameParts (old new : ℕ → List Element) (rows others : Rows) (t : Text) : Type 0 where
  pub parts : List Part
  pub are_parts : AllByRecursion (IsPartOf (is_key rows) t) parts
  pub old_reading : read old rows t ≡ flat_map (part_elements old rows) parts
  pub new_reading : read new others t ≡ flat_map (part_elements new others) parts

-- where two maps have the same keys among those that occur in order in a text, its two readings have the same parts
abbrev pub SameKeysReadByParts : Type 0
SameKeysReadByParts = (old new : ℕ → List Element) (rows others : Rows) (t : Text) →
    ((key : List ℕ) → OccursInOrder key (code_points t) → is_key rows key ≡ is_key others key) → HasSameParts old new rows others t
