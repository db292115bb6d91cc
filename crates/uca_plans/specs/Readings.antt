-- How the elements of a text depend on the rows: only on those whose keys occur in it, in order.
use Rattle.std.specs.Prelude.{◌≡◌, ◌≢◌, ◌⊎◌, ℕ, List, [], ◌∷◌, ◌++◌, length, map, true, Some, if◌then◌else◌, Contains}
use Rattle.std.specs.List.{AllByRecursion}
use Rattle.uca_weights.specs.declared.Element.{Element}
use Rattle.uca_values.specs.declared.ImplicitRange.{ImplicitRange}
use Rattle.uca_values.specs.Content.{Entry, Properties}
use Rattle.uca_values.specs.Implicit.{implicit}
use Rattle.uca_text.specs.Texts.{NfdText}
use Rattle.uca_elements.specs.Rows.{rows_of}
use Rattle.uca_elements.specs.Collations.{elements_of}
use Rattle.uca_text.specs.Occurring.{OccursInOrder}
use Rattle.uca_plans.specs.declared.drafts.DraftElement.{DraftElement}
use Rattle.uca_plans.specs.Drafts.{DraftRow, as_draft, draft_at, draft_elements, with_row, has_key}
use Rattle.uca_elements.specs.Positions.{place_at}
use Rattle.uca_plans.specs.Keys.{keys_in}

-- the rows where each element is valued
abbrev pub valued_rows : (DraftElement → Element) → List DraftRow → List Entry
valued_rows value rows = map (λ row. record { key = row.key; elements = map value row.elements }) rows

-- With any weights for the names, the draft elements of a text are its collation elements under the rows with these
-- weights.
abbrev pub DraftsReadAsRows : Type 0
DraftsReadAsRows = (value : DraftElement → Element) (ranges : List ImplicitRange) (properties : Properties) (rows : List DraftRow) (text : NfdText) → ((c : ℕ) → map (λ e. value (as_draft true e)) (implicit ranges properties c) ≡ implicit ranges properties c) → elements_of (record { rows = rows_of (valued_rows value rows); ranges = ranges; properties = properties }) text ≡ map value (draft_elements ranges properties rows text)

-- drafts that agree at the keys that occur in order in a text read it alike: rows that come later change nothing for it,
-- unless their target occurs in it
abbrev pub DraftsReadByWhatOccurs : Type 0
DraftsReadByWhatOccurs = (ranges : List ImplicitRange) (properties : Properties) (rows others : List DraftRow) (text : NfdText) → ((key : List ℕ) → OccursInOrder key (text.points) → draft_at rows key ≡ draft_at others key) → draft_elements ranges properties rows text ≡ draft_elements ranges properties others text

-- a text that is a key, with a class for each code point, reads as its row
abbrev pub KeysReadAsTheirRows : Type 0
KeysReadAsTheirRows = (ranges : List ImplicitRange) (properties : Properties) (rows : List DraftRow) (text : NfdText) (row : List DraftElement) → length text.classes ≡ length text.points → text.points ≢ [] → draft_at rows (text.points) ≡ Some row → draft_elements ranges properties rows text ≡ row

-- an element of one of the rows, or an implicit one of a code point of the text
abbrev pub IsReadFrom : List ImplicitRange → Properties → List DraftRow → NfdText → DraftElement → Type 0
IsReadFrom ranges properties rows text e =
    ((row : DraftRow) × Contains rows row × Contains row.elements e)
    ⊎ ((c : ℕ) × Contains text.points c × Contains (map (as_draft true) (implicit ranges properties c)) e)

-- what a text is read as comes from rows, or is implicit: nothing else is among its elements
abbrev pub DraftsComeFromRows : Type 0
DraftsComeFromRows = (ranges : List ImplicitRange) (properties : Properties) (rows : List DraftRow) (text : NfdText) → AllByRecursion (IsReadFrom ranges properties rows text) (draft_elements ranges properties rows text)

-- one more row: its key has its elements, all others have theirs, and the keys keep their order, with a new one at the end
pub record IsOneMore (new : DraftRow) (rows : List DraftRow) : Type 0 where
  pub its_own : draft_at (with_row new rows) new.key ≡ Some new.elements
  pub others : (key : List ℕ) → key ≢ new.key → draft_at (with_row new rows) key ≡ draft_at rows key
  pub keys : keys_in (with_row new rows) ≡ (if has_key rows new.key then keys_in rows else keys_in rows ++ new.key ∷ [])
  -- a key that was there keeps its position
  pub places : (key : List ℕ) → has_key rows key ≡ true → place_at 0 (keys_in (with_row new rows)) key ≡ place_at 0 (keys_in rows) key

abbrev pub OneMoreRow : Type 0
OneMoreRow = (new : DraftRow) (rows : List DraftRow) → IsOneMore new rows
