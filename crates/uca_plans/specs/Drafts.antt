-- Drafts: the rows of a tailored table before its weights are numbered.
use Rattle.std.specs.Prelude.{ℕ, Bool, true, false, ◌&&◌, ◌||◌, not, List, [], ◌∷◌, map, nat_eq, nat_le, if◌then◌else◌, Option, Some, None, unwrap_or}
use Rattle.std.specs.List.{flat_map}
use Rattle.uca_weights.specs.declared.Element.{Element}
use Rattle.uca_weights.specs.declared.Level.{Level}
use Rattle.uca_weights.specs.declared.Level.TheVariants.{One, Two, Three}
use Rattle.uca_values.specs.declared.ImplicitRange.{ImplicitRange}
use Rattle.uca_values.specs.Content.{Entry, Properties}
use Rattle.uca_values.specs.Implicit.{implicit}
use Rattle.uca_text.specs.Texts.{NfdText, classed}
use Rattle.uca_elements.specs.Rows.{same_key}
use Rattle.uca_elements.specs.Parts.{Part, Row, Implicit}
use Rattle.uca_elements.specs.Reading.{parts}
use Rattle.uca_plans.specs.declared.drafts.DraftWeight.{DraftWeight}
use Rattle.uca_plans.specs.declared.drafts.DraftWeight.TheVariants.{Base, New}
use Rattle.uca_plans.specs.declared.drafts.DraftElement.{DraftElement}

-- ---- Rows of drafts

pub record DraftRow : Type 0 where
  pub key : List ℕ
  pub elements : List DraftElement

-- an element with weights as they are
abbrev pub as_draft : Bool → Element → DraftElement
as_draft implicit e = record { primary = Base e.primary; secondary = Base e.secondary; tertiary = Base e.tertiary; mark = e.mark; implicit = implicit }

abbrev pub row_as_draft : Entry → DraftRow
row_as_draft row = record { key = row.key; elements = map (as_draft false) row.elements }

-- the row instead of the one with its key, or else after the others
abbrev pub with_row : DraftRow → List DraftRow → List DraftRow
with_row new [] = new ∷ []
with_row new (row ∷ rows) = if same_key row.key new.key then new ∷ rows else row ∷ with_row new rows

abbrev pub has_key : List DraftRow → List ℕ → Bool
has_key [] key = false
has_key (row ∷ rows) key = same_key row.key key || has_key rows key

-- ---- Reading over drafts

-- the elements of the first row with the key
abbrev pub draft_at : List DraftRow → List ℕ → Option (List DraftElement)
draft_at [] key = None
draft_at (row ∷ rows) key = if same_key row.key key then Some row.elements else draft_at rows key

-- the draft elements of a part: those of the row with the key, or the implicit ones of the code point
abbrev pub part_drafts : List ImplicitRange → Properties → List DraftRow → Part → List DraftElement
part_drafts ranges properties rows (Row key) = unwrap_or (draft_at rows key) []
part_drafts ranges properties rows (Implicit c) = map (as_draft true) (implicit ranges properties c)

-- the draft elements of a text, which is matched against the keys of the rows
abbrev pub draft_elements : List ImplicitRange → Properties → List DraftRow → NfdText → List DraftElement
draft_elements ranges properties rows text = flat_map (part_drafts ranges properties rows) (parts (has_key rows) (classed text))

-- ---- What a rule means

abbrev pub is_zero : DraftWeight → Bool
is_zero (Base w) = nat_eq w 0
is_zero (New _) = false

abbrev pub draft_weight : Level → DraftElement → DraftWeight
draft_weight One e = e.primary
draft_weight Two e = e.secondary
draft_weight Three e = e.tertiary

-- no weight at the levels from 1 to this one
abbrev pub is_ignorable_to : Level → DraftElement → Bool
is_ignorable_to One e = is_zero e.primary
is_ignorable_to Two e = is_zero e.primary && is_zero e.secondary
is_ignorable_to Three e = is_zero e.primary && (is_zero e.secondary && is_zero e.tertiary)

-- an anchor's elements up to the last that is not ignorable
pub record AnchorPart : Type 0 where
  pub front : List DraftElement
  pub last : DraftElement

abbrev pub after_front : Level → DraftElement → Option AnchorPart → Option AnchorPart
after_front level e None = if is_ignorable_to level e then None else Some (record { front = []; last = e })
after_front level e (Some part) = Some (record { front = e ∷ part.front; last = part.last })

abbrev pub anchor_part : Level → List DraftElement → Option AnchorPart
anchor_part level [] = None
anchor_part level (e ∷ es) = after_front level e (anchor_part level es)

-- a weight from 8000 up, where implicit weights are
abbrev pub is_implicit_primary : DraftWeight → Bool
is_implicit_primary (Base w) = nat_le 0x8000 w
is_implicit_primary (New _) = false

abbrev pub is_continuation : DraftElement → Bool
is_continuation e = not (is_zero e.primary) && (is_zero e.secondary && is_zero e.tertiary)

-- an element that gets no new weight: a continuation, and at level 1 one whose primary has no position below the
-- implicit ones
abbrev pub takes_no_weight : Level → DraftElement → Bool
takes_no_weight One e = is_continuation e || is_implicit_primary e.primary
takes_no_weight Two e = is_continuation e
takes_no_weight Three e = is_continuation e

abbrev pub accepted_part : Level → Option AnchorPart → Option AnchorPart
accepted_part level None = None
accepted_part level (Some part) = if takes_no_weight level part.last then None else Some part

-- a weight that is not zero becomes this one
abbrev pub reset : DraftWeight → ℕ → DraftWeight
reset w weight = if is_zero w then w else Base weight

-- the element with a new weight at a level; its weights at weaker levels become 0020 and 0002
abbrev pub reweighted : Level → DraftWeight → DraftElement → DraftElement
reweighted One new e = record e { primary = new; secondary = reset e.secondary 0x20; tertiary = reset e.tertiary 2 }
reweighted Two new e = record e { secondary = new; tertiary = reset e.tertiary 2 }
reweighted Three new e = record e { tertiary = new }
