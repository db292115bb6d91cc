-- The place of a weight among cells, as a program finds it.
use Rattle.std.specs.Prelude.{◌≡◌, ℕ, ◌<◌, ◌≤◌, List, [], ◌∷◌, ◌++◌, length, get_or, take}
use Rattle.std.specs.List.{AllByRecursion}
use Rattle.uca_compact.specs.declared.key_buffers.Entry.{Entry}
use Rattle.uca_compact.specs.Forms.{Form, first_cell}
use Rattle.uca_compact.specs.CompactKeys.{cell}

-- where the cell with this index starts, and where it ends
abbrev pub start_at : (start : ℕ) → List ℕ → ℕ → ℕ
start_at start later index = get_or (start ∷ later) index 0

abbrev pub end_at : List ℕ → (end : ℕ) → ℕ → ℕ
end_at later end index = get_or (later ++ end ∷ []) index 0

-- the weight is in the cell with this index
pub record IsPlace (start : ℕ) (later : List ℕ) (end w index : ℕ) : Type 0 where
  pub within : index ≤ length later
  pub from : start_at start later index ≤ w
  pub under : w < end_at later end index

-- what an entry says of its weight, which is no lead, is true; it says nothing of 0
pub record IsTrueEntry (f : Form) (entry : Entry) : Type 0 where
  pub few : entry.len ≤ 3
  pub no_lead : entry.weight < 0xFB00
  pub code : 0 < entry.weight → cell (first_cell f) 1 f.greater 65536 entry.weight ≡ take entry.len entry.code

unfoldable pub AreTrueEntries : Form → List Entry → Type 0
AreTrueEntries f entries = AllByRecursion (IsTrueEntry f) entries
