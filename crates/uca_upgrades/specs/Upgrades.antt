-- Stored keys of lines where a table and a data file give way to new ones: what a store may have, and what is true of it then.
use Rattle.std.specs.Prelude.{◌≡◌, ◌⊎◌, ℕ, List, [], Bool, Option, Some, None}
use Rattle.std.specs.List.{AllByRecursion, flat_map}
use Rattle.uca_weights.specs.declared.Asked.{Asked}
use Rattle.uca_weights.specs.declared.Element.{Element}
use Rattle.uca_weights.specs.declared.Numbers.{Numbers}
use Rattle.uca_weights.specs.declared.Weighting.{Weighting}
use Rattle.uca_weights.specs.AskedSettings.{weighting_by}
use Rattle.uca_values.specs.Content.{Properties}
use Rattle.uca_lines.specs.Lines.{ended, lines_of}
use Rattle.uca_elements.specs.Collations.{elements_of, collation_under}
use Rattle.uca_order.specs.Levels.{lexicographic}
use Rattle.uca_order.specs.Depths.{levels_at}
use Rattle.uca_order.specs.StoredKeys.{stored_level}
use Rattle.uca_tailorings.specs.Images.{Maps, AreImages}
use Rattle.uca_tailorings.specs.Moves.{moved_key}
use Rattle.uca_tailorings.specs.Tailorings.{Tailoring}
use Rattle.uca_changes.specs.Changes.{Change}
use Rattle.uca_order.specs.Keyings.{Keying, keying, key_of_bytes, bytes_compared}
use Rattle.uca_changes.specs.AffectedTexts.{is_affected}
use Rattle.uca_run_parts.specs.AffectedRun.{line_if}
use Rattle.uca_run_parts.specs.Files.{TableAndData, table_with}
use Rattle.uca_run_parts.specs.Input.{cause_of, line_text}
use Rattle.uca_run_parts.specs.Print.{keyed_line_of}
use Rattle.uca_editions.specs.AffectedTexts.{is_affected_by, listed_in}
use Rattle.uca_rekey.specs.ChangedLines.{KeyChange, LineBecomes, LinesBecome, moves}
use Rattle.uca_key_runs.specs.Keys.{keyed_line, printed_key}

-- ---- Upgrades

-- The files that keys were made by, and those that they are made by now. The maps that `uca rekey` puts keys through. And
-- which code points, as they are read of a line, make `uca affected` print it.
pub record Upgrade : Type 0 where
  pub old : TableAndData
  pub new : TableAndData
  pub maps : Maps
  pub affects : List ℕ → Bool

-- by a change, where `uca affected --changes` prints the lines
abbrev pub change_upgrade : Change → Upgrade
change_upgrade change = record {
  old = table_with change.old change.old_properties;
  new = table_with change.new change.new_properties;
  maps = change.maps;
  affects = is_affected_by (listed_in change);
}

-- by a tailoring, where `uca affected` prints them
abbrev pub tailoring_upgrade : Tailoring → Upgrade
tailoring_upgrade tailoring = record {
  old = table_with tailoring.base tailoring.properties;
  new = table_with tailoring.tailored tailoring.properties;
  maps = tailoring.maps;
  affects = is_affected tailoring.relations;
}

-- What keys go by under the old files, and under the new ones. Both runs are asked for these settings. Where no weighting is, each
-- goes by what its table says, or else shifted.
abbrev pub old_keying : Upgrade → Asked → Keying
old_keying upgrade asked = keying asked upgrade.old.table upgrade.old.properties

abbrev pub new_keying : Upgrade → Asked → Keying
new_keying upgrade asked = keying asked upgrade.new.table upgrade.new.properties

-- the weighting that the keys of a store were made by under the old files, and that of new keys
abbrev pub stored_weighting : Upgrade → Option Weighting → Weighting
stored_weighting upgrade asked = weighting_by asked upgrade.old.table.header.setting

abbrev pub new_weighting : Upgrade → Option Weighting → Weighting
new_weighting upgrade asked = weighting_by asked upgrade.new.table.header.setting

-- the key of a line under the old files, and under the new ones
abbrev pub old_key : Upgrade → Asked → List ℕ → List ℕ
old_key upgrade asked line = key_of_bytes (old_keying upgrade asked) line

abbrev pub new_key : Upgrade → Asked → List ℕ → List ℕ
new_key upgrade asked line = key_of_bytes (new_keying upgrade asked) line

-- ---- What a store may have

-- A run of `uca affected` reads the line after this many others, finds no error in it by its data file, and writes nothing
-- for it. Its data file may be any one, such as the old or the new one.
pub record IsUnaffectedLine (numbers : Numbers) (upgrade : Upgrade) (line : List ℕ) : Type 0 where
  pub properties : Properties
  pub before : ℕ
  pub faultless : cause_of (line_text numbers properties) before line ≡ None
  pub unwritten : line_if upgrade.affects (line_text numbers properties) line ≡ []

-- the elements of a line under the old files
abbrev pub old_elements : Numbers → Upgrade → List ℕ → List Element
old_elements numbers upgrade line = elements_of (collation_under upgrade.old.table upgrade.old.properties) (line_text numbers upgrade.old.properties line)

-- A key that was kept for a line: its old key put through the maps, as `uca rekey` does it. Or its old key as it was, where each
-- weight of the line is its own image.
abbrev pub IsKeptLineKey : Upgrade → Asked → List ℕ → List ℕ → Type 0
IsKeptLineKey upgrade asked line key =
    (moved_key upgrade.maps asked.depth (stored_weighting upgrade asked.weighting) (old_key upgrade asked line) ≡ Some key)
    ⊎ (AreImages upgrade.maps (old_elements asked.numbers upgrade line) (old_elements asked.numbers upgrade line) × (key ≡ old_key upgrade asked line))

-- A key that a store has for a line: its new key. Or, if the line is unaffected, one that was kept.
abbrev pub IsStoredLineKey : Upgrade → Asked → List ℕ → List ℕ → Type 0
IsStoredLineKey upgrade asked line key =
    (key ≡ new_key upgrade asked line) ⊎ (IsUnaffectedLine asked.numbers upgrade line × IsKeptLineKey upgrade asked line key)

-- ---- What is true of it

-- all lines of an input are unaffected
abbrev pub AreUnaffectedLines : Numbers → Upgrade → List ℕ → Type 0
AreUnaffectedLines numbers upgrade input = AllByRecursion (IsUnaffectedLine numbers upgrade) (lines_of input)

-- what `uca rekey` makes of the keys of a store
abbrev pub rekeying : Upgrade → Asked → KeyChange
rekeying upgrade asked = moves asked.depth (stored_weighting upgrade asked.weighting) upgrade.maps

-- `uca rekey` reads the first bytes and writes the second: these are what the lines of the first become, each with LF.
abbrev pub IsRekeyed : Upgrade → Asked → List ℕ → List ℕ → Type 0
IsRekeyed upgrade asked bytes now =
    (lines : List (List ℕ)) × LinesBecome (rekeying upgrade asked) (lines_of bytes) lines × (now ≡ flat_map ended lines)

-- What is true of the keys of a store, where each run was asked for these settings. A run of `uca rekey` has to be asked for the
-- weighting of the stored keys, since it reads no table, and it need not know how numbers compare.
pub record KeysAreUpgraded (upgrade : Upgrade) (asked : Asked) : Type 0 where
  -- this is the weighting of new keys too
  pub chosen : new_weighting upgrade asked.weighting ≡ stored_weighting upgrade asked.weighting
  -- the old key of an unaffected line, put through the maps, is its new key
  pub moved : (line : List ℕ) → IsUnaffectedLine asked.numbers upgrade line →
      moved_key upgrade.maps asked.depth (stored_weighting upgrade asked.weighting) (old_key upgrade asked line) ≡ Some (new_key upgrade asked line)
  -- so each key of the store is the new key of its line
  pub stored : (line key : List ℕ) → IsStoredLineKey upgrade asked line key → key ≡ new_key upgrade asked line
  -- two keys of the store, compared as bytes, have the order of their lines under the new files
  pub ordered : (left right left_key right_key : List ℕ) →
      IsStoredLineKey upgrade asked left left_key → IsStoredLineKey upgrade asked right right_key →
      lexicographic left_key right_key ≡ (bytes_compared (new_keying upgrade asked) left right).order
  -- and they give the level at which these differ
  pub levels : (left right left_key right_key : List ℕ) →
      IsStoredLineKey upgrade asked left left_key → IsStoredLineKey upgrade asked right right_key →
      stored_level (levels_at asked.depth (stored_weighting upgrade asked.weighting)) left_key right_key ≡ (bytes_compared (new_keying upgrade asked) left right).level
  -- What `uca keys` printed of an unaffected line under the old files becomes, by `uca rekey`, what it prints under the new ones.
  -- Both are given here without their LF.
  pub printed_line : (line before after : List ℕ) → IsUnaffectedLine asked.numbers upgrade line →
      ended before ≡ printed_key (old_keying upgrade asked) line →
      ended after ≡ printed_key (new_keying upgrade asked) line → LineBecomes (rekeying upgrade asked) before after
  -- `uca rekey` puts the new key in place of the old one before a tab and what a store has after it, such as the line itself.
  pub keyed_row : (line row before after : List ℕ) → IsUnaffectedLine asked.numbers upgrade line →
      ended before ≡ keyed_line_of (old_key upgrade asked line) row →
      ended after ≡ keyed_line_of (new_key upgrade asked line) row → LineBecomes (rekeying upgrade asked) before after
  -- So the whole output of `uca keys` over an input of unaffected lines becomes its output under the new files.
  pub printed : (input : List ℕ) → AreUnaffectedLines asked.numbers upgrade input →
      IsRekeyed upgrade asked (flat_map (printed_key (old_keying upgrade asked)) (lines_of input))
      (flat_map (printed_key (new_keying upgrade asked)) (lines_of input))
  -- the whole output of `uca keys --lines` over unaffected lines becomes its output under the new files
  pub keyed : (input : List ℕ) → AreUnaffectedLines asked.numbers upgrade input →
      IsRekeyed upgrade asked (flat_map (keyed_line (old_keying upgrade asked)) (lines_of input))
      (flat_map (keyed_line (new_keying upgrade asked)) (lines_of input))

-- that for all settings that are asked for, and for the weighting of the tables where none is
abbrev pub KeepsOrder : Upgrade → Type 0
KeepsOrder upgrade = (asked : Asked) → KeysAreUpgraded upgrade asked
