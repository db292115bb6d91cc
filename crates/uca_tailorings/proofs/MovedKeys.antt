-- Keys of untouched texts are put through the maps of an accepted tailoring, and compare with the new keys of all others.
use Rattle.std.proofs.Common.{◌≡◌, ℕ, List, ⊎_elim, sym, ap₂, subst₂, ◌∙◌}
use Rattle.uca_weights.specs.declared.Depth.{Depth}
use Rattle.uca_weights.specs.declared.Weighting.{Weighting}
use Rattle.uca_text.specs.Texts.{NfdText}
use Rattle.uca_text.specs.Limits.{IsNormal}
use Rattle.uca_relations.specs.Relations.{IsUntouched}
use Rattle.uca_elements.specs.Collations.{elements_of}
use Rattle.uca_order.specs.Levels.{lexicographic}
use Rattle.uca_order.specs.Depths.{read_text, levels_at, key_at}
use Rattle.uca_order.specs.StoredKeys.{stored_level}
use Rattle.uca_order.proofs.DepthOrder.{depth_order, depth_level}
use Rattle.uca_tailorings.specs.Moves.{KeyMoves}
use Rattle.uca_tailorings.specs.Tailorings.{Tailoring, IsTailoring, IsAccepted, base_reading, tailored_reading}
use Rattle.uca_tailorings.specs.Laws.{IsStoredKey, KeysMove, KeysMoveByMaps}
use Rattle.uca_tailorings.proofs.UntouchedTexts.{images_read}
use Rattle.uca_tailorings.proofs.AgreeingReadings.{same_reading}
use Rattle.uca_tailorings.proofs.Moves.{images_move, kept_is_new}

module _ (tailoring : Tailoring) (is : IsTailoring tailoring) (accepted : IsAccepted tailoring) where
  -- the key of an untouched text
  moves : (text : NfdText) → IsNormal text → IsUntouched tailoring.relations text.points →
      KeyMoves tailoring.maps (read_text (base_reading tailoring) text) (read_text (tailored_reading tailoring) text)
  moves text normal untouched =
      images_move tailoring.maps is.maps (elements_of (base_reading tailoring) text) (elements_of (tailored_reading tailoring) text) text.points normal.scalars
      (images_read tailoring is accepted text normal untouched)

  -- so the keys of a store are those under the tailored table
  stored_is_new : (depth : Depth) (weighting : Weighting) (text : NfdText) (key : List ℕ) →
      IsStoredKey tailoring (base_reading tailoring) (tailored_reading tailoring) depth weighting text key →
      key ≡ key_at depth weighting (read_text (tailored_reading tailoring) text)
  stored_is_new depth weighting text key stored =
      ⊎_elim
      (λ made. made)
      (λ kept. kept_is_new tailoring.maps (read_text (base_reading tailoring) text) (read_text (tailored_reading tailoring) text)
      (moves text kept.0 kept.1) depth weighting key kept.2)
      stored

  -- the law for the lookups of the tables themselves
  pub own_keys : KeysMove tailoring (base_reading tailoring) (tailored_reading tailoring)
  own_keys =
      record {
        moves = moves;
        ordered = λ depth weighting left right left_key right_key first second.
            ap₂ lexicographic (stored_is_new depth weighting left left_key first) (stored_is_new depth weighting right right_key second)
            ∙ depth_order depth weighting (read_text (tailored_reading tailoring) left) (read_text (tailored_reading tailoring) right);
        levels = λ depth weighting left right left_key right_key first second.
            ap₂ (stored_level (levels_at depth weighting)) (stored_is_new depth weighting left left_key first)
            (stored_is_new depth weighting right right_key second)
            ∙ depth_level depth weighting (read_text (tailored_reading tailoring) left) (read_text (tailored_reading tailoring) right);
      }

-- and for others that find the same
pub keys_move : KeysMoveByMaps
keys_move tailoring old new is accepted old_reads new_reads =
    subst₂ (KeysMove tailoring) (sym (same_reading old (base_reading tailoring) old_reads))
    (sym (same_reading new (tailored_reading tailoring) new_reads)) (own_keys tailoring is accepted)
