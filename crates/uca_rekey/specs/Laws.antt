-- How the lines of a text change whose key moves, and how they become lines of compact keys.
use Rattle.std.specs.Prelude.{◌≡◌, ◌↔◌, ℕ, ◌<◌, List}
use Rattle.std.specs.List.{AllByRecursion}
use Rattle.std.specs.Str.{IsUtf8}
use Rattle.uca_weights.specs.declared.Asked.{Asked}
use Rattle.uca_weights.specs.declared.Depth.{Depth}
use Rattle.uca_weights.specs.declared.Weighting.{Weighting}
use Rattle.uca_values.specs.Content.{TableContent, Properties, IsTable}
use Rattle.uca_lines.specs.Lines.{ended}
use Rattle.uca_order.specs.Levels.{key_bytes}
use Rattle.uca_order.specs.Depths.{ReadText, key_at}
use Rattle.uca_order.specs.Keyings.{Keying, keying, key_of_bytes, read_of}
use Rattle.uca_books.specs.Books.{BookContent}
use Rattle.uca_compact.specs.CompactTexts.{compact_of_bytes}
use Rattle.uca_tailorings.specs.Images.{Maps}
use Rattle.uca_tailorings.specs.Moves.{KeyMoves}
use Rattle.uca_run_parts.specs.Print.{digits_line_of, keyed_line_of, print_line_at}
use Rattle.uca_rekey.specs.ChangedLines.{LineBecomes, compacts, moves}

-- each is a number below 256
abbrev pub AreBytes : List ℕ → Type 0
AreBytes bytes = AllByRecursion (λ b. b < 256) bytes

-- The old line of a text becomes its new line: both lines as they are printed, but without their LF.
pub record LinesMove (maps : Maps) (old new : ReadText) : Type 0 where
  -- the key before a line
  pub keyed : (depth : Depth) (weighting : Weighting) → AreBytes (key_at depth weighting old) → (line before after : List ℕ) →
      ended before ≡ keyed_line_of (key_at depth weighting old) line → ended after ≡ keyed_line_of (key_at depth weighting new) line →
      LineBecomes (moves depth weighting maps) before after
  -- the key alone, in groups
  pub printed : (depth : Depth) (weighting : Weighting) → AreBytes (key_at depth weighting old) → (before after : List ℕ) →
      ended before ≡ print_line_at depth (key_bytes weighting old.elements) old.points →
      ended after ≡ print_line_at depth (key_bytes weighting new.elements) new.points →
      LineBecomes (moves depth weighting maps) before after

-- This is so of each text whose key moves by the maps.
abbrev pub LinesMoveWithKeys : Type 0
LinesMoveWithKeys = (maps : Maps) (old new : ReadText) → KeyMoves maps old new → LinesMove maps old new

-- ---- Compact keys

-- The lines with the key of a text become those with its compact key, and no others: lines as they are printed, but without
-- their LF.
pub record KeyLinesBecomeCompact (b : BookContent) (k : Keying) (bytes : List ℕ) : Type 0 where
  -- the key before a row, such as the text itself
  pub keyed : (row before after : List ℕ) → ended before ≡ keyed_line_of (key_of_bytes k bytes) row →
      LineBecomes (compacts k.settings.depth k.settings.weighting b) before after ↔ (ended after ≡ keyed_line_of (compact_of_bytes b k bytes) row)
  -- the key alone, in groups
  pub printed : (before after : List ℕ) →
      ended before ≡ print_line_at k.settings.depth (key_bytes k.settings.weighting (read_of k bytes).elements) (read_of k bytes).points →
      LineBecomes (compacts k.settings.depth k.settings.weighting b) before after ↔ (ended after ≡ digits_line_of (compact_of_bytes b k bytes))

-- This is so of each text of UTF-8 under each table.
abbrev pub LinesBecomeCompactLines : Type 0
LinesBecomeCompactLines = (asked : Asked) (table : TableContent) (properties : Properties) (b : BookContent) (bytes : List ℕ) →
    IsTable table → IsUtf8 bytes → KeyLinesBecomeCompact b (keying asked table properties) bytes
