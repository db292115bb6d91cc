-- The keys of lines after an upgrade, from what is true of the texts of unaffected lines.
use Rattle.std.proofs.Common.{◌≡◌, ℕ, List, Option, Some, ⊎_elim, chars, sym, ap, ap₂, ◌∙◌}
use Rattle.std.specs.Char.{IsScalar}
use Rattle.std.specs.List.{AllByRecursion, flat_map}
use Rattle.unicode_normalization.specs.Forms.{nfd}
use Rattle.uca_weights.specs.declared.Asked.{Asked}
use Rattle.uca_weights.specs.declared.Numbers.{Numbers}
use Rattle.uca_weights.specs.declared.Weighting.{Weighting}
use Rattle.uca_weights.proofs.Lists.{each_any, each_weaker}
use Rattle.uca_values.specs.Content.{IsTable}
use Rattle.uca_lines.specs.Lines.{Lacks, ended, is_lf, lines_of}
use Rattle.uca_order.specs.Levels.{lexicographic}
use Rattle.uca_order.specs.Depths.{ReadText, key_at, levels_at, read_points, written}
use Rattle.uca_order.specs.StoredKeys.{stored_level}
use Rattle.uca_order.proofs.DepthOrder.{depth_level, depth_order}
use Rattle.uca_tailorings.specs.Moves.{KeyMoves}
use Rattle.uca_tailorings.proofs.Moves.{kept_is_new}
use Rattle.uca_run_parts.specs.Files.{TableAndData}
use Rattle.uca_run_parts.specs.Input.{line_text}
use Rattle.uca_run_parts.specs.Print.{keyed_line_of}
use Rattle.uca_rekey.specs.Laws.{AreBytes, LinesMove}
use Rattle.uca_rekey.specs.ChangedLines.{LineBecomes}
use Rattle.uca_rekey.proofs.MovedLines.{lines_move}
use Rattle.uca_elements.specs.Collations.{collation_under}
use Rattle.uca_elements.proofs.Collations.{elements_fit}
use Rattle.uca_order.specs.Keyings.{Keying, keying}
use Rattle.uca_order.proofs.Levels.{key_is_bytes}
use Rattle.uca_key_runs.specs.Keys.{keyed_line, printed_key}
use Rattle.uca_key_runs.proofs.NormalLines.{line_scalars, normal_line}
use Rattle.uca_upgrades.specs.Upgrades.{Upgrade, AreUnaffectedLines, IsRekeyed, IsStoredLineKey, IsUnaffectedLine, KeepsOrder, new_key, new_keying, new_weighting, old_key, old_keying, rekeying, stored_weighting}
use Rattle.uca_upgrades.proofs.Outputs.{keyed_body, keyed_body_lacks, keyed_is, lines_lack, output_becomes, printed_body, printed_body_lacks, printed_is}

-- a line as it is read under some files
abbrev pub read_line : Numbers → TableAndData → List ℕ → ReadText
read_line numbers files line = read_points (collation_under files.table files.properties) numbers (chars line)

-- What is read of an unaffected line has scalar values alone, in Normalization Form D and under any data file. So has the line.
pub read_scalars : (numbers : Numbers) (upgrade : Upgrade) (line : List ℕ) → IsUnaffectedLine numbers upgrade line →
    AllByRecursion IsScalar (nfd (written numbers (chars line)))
read_scalars numbers upgrade line is = (normal_line numbers is.properties is.before line is.faultless).scalars

pub own_scalars : (numbers : Numbers) (upgrade : Upgrade) (line : List ℕ) → IsUnaffectedLine numbers upgrade line → AllByRecursion IsScalar (nfd (chars line))
own_scalars numbers upgrade line is = line_scalars (line_text numbers is.properties) is.before line is.faultless

-- the key of each unaffected line is put through the maps
abbrev pub Moves : Upgrade → Type 0
Moves upgrade = (numbers : Numbers) (line : List ℕ) → IsUnaffectedLine numbers upgrade line →
    KeyMoves upgrade.maps (read_line numbers upgrade.old line) (read_line numbers upgrade.new line)

-- runs over the new files and over the old ones that are asked for the same go by one weighting
abbrev pub KeepsWeighting : Upgrade → Type 0
KeepsWeighting upgrade = (asked : Option Weighting) → new_weighting upgrade asked ≡ stored_weighting upgrade asked

-- what keys go by under some files, by these settings with this weighting
abbrev keying_under : TableAndData → Asked → Weighting → Keying
keying_under files asked weighting = keying (record { weighting = Some weighting; depth = asked.depth; numbers = asked.numbers }) files.table files.properties

module _ (upgrade : Upgrade) (is : IsTable upgrade.old.table) (moves : Moves upgrade) (keeps : KeepsWeighting upgrade) (asked : Asked) where
  -- the weighting of the stored keys
  abbrev weighting : Weighting
  weighting = stored_weighting upgrade asked.weighting

  -- a key that is stored is the new one
  stored_is_new : (line key : List ℕ) → IsStoredLineKey upgrade asked line key → key ≡ new_key upgrade asked line
  stored_is_new line key stored =
      ⊎_elim (λ made. made)
      (λ kept. kept_is_new upgrade.maps (read_line asked.numbers upgrade.old line) (read_line asked.numbers upgrade.new line) (moves asked.numbers line kept.0) asked.depth weighting key kept.1
      ∙ ap (λ w. key_at asked.depth w (read_line asked.numbers upgrade.new line)) (sym (keeps asked.weighting)))
      stored

  -- the old key is of bytes
  old_bytes : (line : List ℕ) → IsUnaffectedLine asked.numbers upgrade line → AreBytes (key_at asked.depth weighting (read_line asked.numbers upgrade.old line))
  old_bytes line unaffected =
      key_is_bytes asked.depth weighting (read_line asked.numbers upgrade.old line)
      (elements_fit upgrade.old.table upgrade.old.properties is (line_text asked.numbers upgrade.old.properties line) (read_scalars asked.numbers upgrade line unaffected))
      (own_scalars asked.numbers upgrade line unaffected)

  -- so the printed lines become new ones
  lines : (line : List ℕ) → IsUnaffectedLine asked.numbers upgrade line → LinesMove upgrade.maps (read_line asked.numbers upgrade.old line) (read_line asked.numbers upgrade.new line)
  lines line unaffected = lines_move upgrade.maps (read_line asked.numbers upgrade.old line) (read_line asked.numbers upgrade.new line) (moves asked.numbers line unaffected)

  -- The line of output of an unaffected line, with its key alone or before a row, and how it changes.
  printed_line : (line before after : List ℕ) → IsUnaffectedLine asked.numbers upgrade line → ended before ≡ printed_key (old_keying upgrade asked) line →
      ended after ≡ printed_key (new_keying upgrade asked) line → LineBecomes (rekeying upgrade asked) before after
  printed_line line before after unaffected was is_now =
      (lines line unaffected).printed asked.depth weighting (old_bytes line unaffected) before after was
      (is_now ∙ ap (λ w. printed_key (keying_under upgrade.new asked w) line) (keeps asked.weighting))

  keyed_row : (line row before after : List ℕ) → IsUnaffectedLine asked.numbers upgrade line → ended before ≡ keyed_line_of (old_key upgrade asked line) row →
      ended after ≡ keyed_line_of (new_key upgrade asked line) row → LineBecomes (rekeying upgrade asked) before after
  keyed_row line row before after unaffected was is_now =
      (lines line unaffected).keyed asked.depth weighting (old_bytes line unaffected) row before after was
      (is_now ∙ ap (λ w. keyed_line_of (key_at asked.depth w (read_line asked.numbers upgrade.new line)) row) (keeps asked.weighting))

  -- so the output of a run changes
  printed : (input : List ℕ) → AreUnaffectedLines asked.numbers upgrade input →
      IsRekeyed upgrade asked (flat_map (printed_key (old_keying upgrade asked)) (lines_of input))
      (flat_map (printed_key (new_keying upgrade asked)) (lines_of input))
  printed input unaffected =
      let old = old_keying upgrade asked in
      let new = new_keying upgrade asked in
      output_becomes (rekeying upgrade asked) (printed_key old) (printed_body old) (printed_key new) (printed_body new)
      (printed_is old) (printed_is new) (lines_of input)
      (each_any (λ line. Lacks is_lf (printed_body old line)) (printed_body_lacks old) (lines_of input))
      (each_weaker (IsUnaffectedLine asked.numbers upgrade) (λ line. LineBecomes (rekeying upgrade asked) (printed_body old line) (printed_body new line))
      (λ line one. printed_line line (printed_body old line) (printed_body new line) one (sym (printed_is old line)) (sym (printed_is new line)))
      (lines_of input) unaffected)

  keyed : (input : List ℕ) → AreUnaffectedLines asked.numbers upgrade input →
      IsRekeyed upgrade asked (flat_map (keyed_line (old_keying upgrade asked)) (lines_of input))
      (flat_map (keyed_line (new_keying upgrade asked)) (lines_of input))
  keyed input unaffected =
      let old = old_keying upgrade asked in
      let new = new_keying upgrade asked in
      output_becomes (rekeying upgrade asked) (keyed_line old) (keyed_body old) (keyed_line new) (keyed_body new)
      (keyed_is old) (keyed_is new) (lines_of input)
      (each_weaker (Lacks is_lf) (λ line. Lacks is_lf (keyed_body old line)) (keyed_body_lacks old) (lines_of input) (lines_lack input))
      (each_weaker (IsUnaffectedLine asked.numbers upgrade) (λ line. LineBecomes (rekeying upgrade asked) (keyed_body old line) (keyed_body new line))
      (λ line one. keyed_row line line (keyed_body old line) (keyed_body new line) one (sym (keyed_is old line)) (sym (keyed_is new line)))
      (lines_of input) unaffected)

pub keeps_order : (upgrade : Upgrade) → IsTable upgrade.old.table → Moves upgrade → KeepsWeighting upgrade → KeepsOrder upgrade
keeps_order upgrade is moves keeps asked =
    let old_one = stored_weighting upgrade asked.weighting in
    let new_one = new_weighting upgrade asked.weighting in
    let new_of = stored_is_new upgrade is moves keeps asked in
    record {
      chosen = keeps asked.weighting;
      moved = λ line unaffected.
          (moves asked.numbers line unaffected).mended asked.depth old_one ∙ ap (λ w. Some (key_at asked.depth w (read_line asked.numbers upgrade.new line))) (sym (keeps asked.weighting));
      stored = new_of;
      ordered = λ left right left_key right_key first second.
          ap₂ lexicographic (new_of left left_key first) (new_of right right_key second)
          ∙ depth_order asked.depth new_one (read_line asked.numbers upgrade.new left) (read_line asked.numbers upgrade.new right);
      levels = λ left right left_key right_key first second.
          ap (λ w. stored_level (levels_at asked.depth w) left_key right_key) (sym (keeps asked.weighting))
          ∙ (ap₂ (stored_level (levels_at asked.depth new_one)) (new_of left left_key first) (new_of right right_key second)
          ∙ depth_level asked.depth new_one (read_line asked.numbers upgrade.new left) (read_line asked.numbers upgrade.new right));
      printed_line = printed_line upgrade is moves keeps asked;
      keyed_row = keyed_row upgrade is moves keeps asked;
      printed = printed upgrade is moves keeps asked;
      keyed = keyed upgrade is moves keeps asked;
    }
