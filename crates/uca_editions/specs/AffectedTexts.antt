-- Which texts changes affect.
use Rattle.std.specs.Prelude.{◌≡◌, ◌↔◌, ℕ, List, ◌||◌, Bool, false}
use Rattle.std.specs.List.{list_any}
use Rattle.uca_values.specs.Ranges.{is_within}
use Rattle.uca_change_files.specs.Changes.{ChangeContent}
use Rattle.uca_changes.specs.AffectedTexts.{occurs_in_order}
use Rattle.uca_changes.specs.Changes.{Change, IsUnaffected}

-- whether a changed text occurs in order in a text, or a changed range has one of its code points
abbrev pub is_affected_by : ChangeContent → List ℕ → Bool
is_affected_by content points = list_any (λ text. occurs_in_order text points) content.texts || list_any (is_within content.ranges) points

-- the texts and the ranges that a change lists
abbrev pub listed_in : Change → ChangeContent
listed_in change = record { texts = change.texts; ranges = change.ranges }

-- that is so of all texts but those that the change leaves as they are
abbrev pub AffectedByChangesAreTheOthers : Type 0
AffectedByChangesAreTheOthers = (change : Change) (points : List ℕ) → (is_affected_by (listed_in change) points ≡ false) ↔ IsUnaffected change points
