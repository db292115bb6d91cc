-- How lines are read and written.
use Rattle.std.specs.Prelude.{◌≡◌, ◌⊎◌, ℕ, ◌+◌, ◌<◌, ◌≤◌, List, [], ◌∷◌, ◌++◌, length, true, false, Option, Some, None, ◌==◌, if◌then◌else◌}
use Rattle.std.specs.Char.{IsScalar}
use Rattle.std.specs.List.{flat_map, AllByRecursion}
use Rattle.uca_values.specs.declared.CodePointRange.{CodePointRange}
use Rattle.uca_values.specs.declared.faults.FaultKind.{FaultKind}
use Rattle.uca_values.specs.declared.faults.FaultKind.TheVariants as kinds
use Rattle.uca_lines.specs.Lines.{ended}
use Rattle.uca_table.specs.Canonical.{point_text}
use Rattle.uca_change_files.specs.Changes.{ChangeContent, Item, OfText, OfRange, IsItem, MayFollow, put_last}
use Rattle.uca_change_files.specs.ChangeTexts.{Said, header, spaced, text_line, range_line, IsLine}

-- ---- Words

-- the word spells the code point
pub record IsPoint (word : List ℕ) (c : ℕ) : Type 0 where
  pub text : word ≡ point_text c
  pub scalar : IsScalar c

-- what follows the space at the front of a text
abbrev pub space_at : List ℕ → Option (List ℕ)
space_at [] = None
space_at (b ∷ bs) = if b == 32 then Some bs else None

-- the text spells the code points, each after a space
pub record ArePoints (text points : List ℕ) : Type 0 where
  pub spelled : text ≡ flat_map spaced points
  pub scalars : AllByRecursion IsScalar points

-- the text spells the ends of a range
pub record AreEnds (text : List ℕ) (r : CodePointRange) : Type 0 where
  pub spelled : text ≡ point_text r.first ++ 46 ∷ 46 ∷ point_text r.last
  pub first : IsScalar r.first
  pub last : IsScalar r.last

-- ---- One item more

-- the item may be added
pub record MayAdd (content : ChangeContent) (item : Item) : Type 0 where
  pub fits : IsItem item
  pub due : MayFollow content item
  pub few : length content.texts + length content.ranges < 999999

-- the item is added
pub record Adds (old : ChangeContent) (item : Item) (new : ChangeContent) : Type 0 where
  pub fits : IsItem item
  pub due : MayFollow old item
  pub few : length old.texts + length old.ranges < 999999
  pub adds : new ≡ put_last item old

-- why one of these items is not added, the first of these: it is none, it may not follow, or it is one too many
abbrev pub Refuses : (Item → Type 0) → ChangeContent → FaultKind → Type 0
Refuses Is content kind =
    ((kind ≡ kinds.Line) × ((item : Item) → Is item → ¬ (IsItem item)))
    ⊎ ((kind ≡ kinds.Order) × ((item : Item) × Is item × IsItem item × ¬ (MayFollow content item)))
    ⊎ ((kind ≡ kinds.Limit) × ((item : Item) × Is item × IsItem item × MayFollow content item
    × (999999 ≤ length content.texts + length content.ranges)))

-- the text spells the item
abbrev pub SpellsText : List ℕ → Item → Type 0
SpellsText text (OfText points) = ArePoints text points
SpellsText text (OfRange r) = ⊥

abbrev pub SpellsRange : List ℕ → Item → Type 0
SpellsRange text (OfText points) = ⊥
SpellsRange text (OfRange r) = AreEnds text r

-- one of these items is added
abbrev pub AddsOne : (Item → Type 0) → ChangeContent → ChangeContent → Type 0
AddsOne Is old new = (item : Item) × Is item × Adds old item new

-- after lines that say the old the line may follow, and then they say the new
abbrev pub Takes : Said → List ℕ → Said → Type 0
Takes old line new =
    ((old.started ≡ false) × (line ≡ header) × (new ≡ record { started = true; content = old.content }))
    ⊎ ((old.started ≡ true) × (new.started ≡ true) × ((item : Item) × IsLine line item × Adds old.content item new.content))

-- ---- The parts of the text, each as lines with their LF

unfoldable pub text_lines : List (List ℕ) → List ℕ
text_lines texts = flat_map (λ text. ended (text_line text)) texts

unfoldable pub range_lines : List CodePointRange → List ℕ
range_lines ranges = flat_map (λ r. ended (range_line r)) ranges
