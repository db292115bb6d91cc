-- Unaffected texts read as the images of what they read as before an accepted change.
use Rattle.std.proofs.Common.{◌≡◌, ℕ, List, Option, Some, None, ⊎_elim, map, refl, sym, ap, ap₂, subst, subst₂, ◌∙◌}
use Rattle.std.specs.Char.{IsScalar}
use Rattle.std.specs.List.{AllByRecursion}
use Rattle.unicode_normalization.specs.Forms.{nfd}
use Rattle.uca_weights.specs.declared.Asked.{Asked}
use Rattle.uca_weights.specs.declared.Element.{Element}
use Rattle.uca_weights.specs.declared.Numbers.{Numbers}
use Rattle.uca_weights.specs.declared.Weighting.{Weighting}
use Rattle.uca_weights.proofs.Lists.{each_weaker, each_contained}
use Rattle.uca_values.specs.Implicit.{implicit}
use Rattle.uca_text.specs.Texts.{Text, nfd_text, with_classes, code_points}
use Rattle.uca_text.specs.Occurring.{OccursInOrder}
use Rattle.uca_text.proofs.Occurring.{occurs_trans, each_occurring}
use Rattle.uca_elements.specs.Rows.{rows_of}
use Rattle.uca_elements.specs.Reading.{read}
use Rattle.uca_elements.specs.Collations.{elements_of}
use Rattle.uca_elements.proofs.RelatedReading.{read_related}
use Rattle.uca_order.specs.Levels.{lexicographic}
use Rattle.uca_order.specs.Depths.{levels_at, read_points, text_key, texts_compared, written, written_text}
use Rattle.uca_order.specs.StoredKeys.{stored_level}
use Rattle.uca_order.proofs.DepthOrder.{depth_order, depth_level}
use Rattle.uca_tailorings.specs.Images.{AreImages}
use Rattle.uca_tailorings.specs.Moves.{KeyMoves}
use Rattle.uca_tailorings.proofs.Images.{images-append}
use Rattle.uca_tailorings.proofs.ImplicitImages.{own_implicit}
use Rattle.uca_tailorings.proofs.RowConditions.{kept_at_key}
use Rattle.uca_tailorings.proofs.Parts.{each_of_both}
use Rattle.uca_text.proofs.Texts.{letters_occur}
use Rattle.uca_tailorings.proofs.UntouchedTexts.{images_compare}
use Rattle.uca_tailorings.proofs.AgreeingReadings.{same_reading}
use Rattle.uca_tailorings.proofs.Moves.{images_move, kept_is_new}
use Rattle.uca_changes.specs.Changes.{Change, IsChange, old_reading, new_reading, old_weighting, new_weighting, new_settings, IsChangedText, IsChangedPoint, IsUnaffected, IsAcceptedChange}
use Rattle.uca_changes.specs.Points.{IsSamePoint}
use Rattle.uca_changes.specs.Laws.{IsUnaffectedText, IsStoredKey, UnaffectedTextsStay, ChangesKeepUnaffectedTexts}
use Rattle.uca_changes.specs.declared.conditions.ChangeCondition.TheVariants.{RangeChanged, RowChanged, RowMissing, RowExtra, PointChanged, SettingChanged}
use Rattle.uca_changes.proofs.Points.{same_classes, implicit_same}
use borrow.Table.Char.{scalar_below}

-- What is read of a text, as code points: the change leaves it as it is.
record IsLeft (change : Change) (text : List ℕ) : Type 0 where
  scalars : AllByRecursion IsScalar (nfd text)
  unaffected : IsUnaffected change (nfd text)

module _ (change : Change) (is : IsChange change) (accepted : IsAcceptedChange change) where
  -- what both data files say of its code points
  same_points : (text : List ℕ) → IsLeft change text → AllByRecursion (IsSamePoint change.old_properties change.new_properties) (nfd text)
  same_points text stays =
      each_of_both IsScalar (λ c. ¬ (IsChangedPoint change c)) (IsSamePoint change.old_properties change.new_properties) (accepted PointChanged)
      (nfd text) stays.scalars stays.unaffected.outside

  -- so the text has one reading in letters
  same_letters : (text : List ℕ) → IsLeft change text →
      with_classes (nfd text) (map change.old_properties.class (nfd text)) ≡ with_classes (nfd text) (map change.new_properties.class (nfd text))
  same_letters text stays =
      ap (with_classes (nfd text))
      (same_classes change.old_properties change.new_properties (nfd text)
      (each_weaker (IsSamePoint change.old_properties change.new_properties) (λ c. change.old_properties.class c ≡ change.new_properties.class c)
      (λ c same. same.class) (nfd text) (same_points text stays)))

  -- the implicit weights of its code points are images
  implicit_images : (text : List ℕ) → IsLeft change text →
      AllByRecursion (λ c. AreImages change.maps (implicit change.old.header.ranges change.old_properties c)
      (implicit change.new.header.ranges change.new_properties c)) (nfd text)
  implicit_images text stays =
      each_of_both IsScalar (λ c. ¬ (IsChangedPoint change c))
      (λ c. AreImages change.maps (implicit change.old.header.ranges change.old_properties c) (implicit change.new.header.ranges change.new_properties c))
      (λ c scalar outside.
      subst (AreImages change.maps (implicit change.old.header.ranges change.old_properties c))
      (implicit_same change.old.header.ranges change.new.header.ranges change.old_properties change.new_properties c (accepted RangeChanged c scalar outside)
      (accepted PointChanged c scalar outside))
      (own_implicit change.maps is.maps change.old.header.ranges change.old_properties is.old.header.ranges c (scalar_below c scalar)))
      (nfd text) stays.scalars stays.unaffected.outside

  -- the letters of a text by the old data file
  abbrev old_letters : List ℕ → Text
  old_letters text = with_classes (nfd text) (map change.old_properties.class (nfd text))

  -- their code points occur in the text
  points_occur : (text : List ℕ) → OccursInOrder (code_points (old_letters text)) (nfd text)
  points_occur text = letters_occur (nfd text) (map change.old_properties.class (nfd text))

  -- such a text reads as the images of what it read as before
  images_read : (text : List ℕ) → IsLeft change text →
      AreImages change.maps (elements_of (old_reading change) (nfd_text change.old_properties text)) (elements_of (new_reading change) (nfd_text change.new_properties text))
  images_read text stays =
      subst (λ t. AreImages change.maps (elements_of (old_reading change) (nfd_text change.old_properties text))
      (read (implicit change.new.header.ranges change.new_properties) (rows_of change.new.rows) t))
      (same_letters text stays)
      (read_related (AreImages change.maps) tt (images-append change.maps) (implicit change.old.header.ranges change.old_properties)
      (implicit change.new.header.ranges change.new_properties) (rows_of change.old.rows) (rows_of change.new.rows) (old_letters text)
      (record {
        at_keys = λ key occurs.
            kept_at_key change.maps (IsChangedText change) change.old.rows change.new.rows (accepted RowChanged) (accepted RowMissing) (accepted RowExtra) key
            (λ changed. each_contained (λ t. ¬ (OccursInOrder t (nfd text))) change.texts key stays.unaffected.texts changed
            (occurs_trans key (code_points (old_letters text)) (nfd text) occurs (points_occur text)));
        at_points =
            each_occurring (λ c. AreImages change.maps (implicit change.old.header.ranges change.old_properties c)
            (implicit change.new.header.ranges change.new_properties c)) (code_points (old_letters text)) (nfd text) (points_occur text) (implicit_images text stays);
      }))

  -- the elements of an unaffected text under the old reading and under the new one
  abbrev old_read : Numbers → List ℕ → List Element
  old_read numbers text = elements_of (old_reading change) (written_text numbers change.old_properties text)

  abbrev new_read : Numbers → List ℕ → List Element
  new_read numbers text = elements_of (new_reading change) (written_text numbers change.new_properties text)

  -- those of the new one are images
  images_stay : (numbers : Numbers) (text : List ℕ) → IsUnaffectedText numbers change text → AreImages change.maps (old_read numbers text) (new_read numbers text)
  images_stay numbers text stays = images_read (written numbers text) (record { scalars = stays.read_scalars; unaffected = stays.unaffected })

  -- the key of an unaffected text
  moves : (numbers : Numbers) (text : List ℕ) → IsUnaffectedText numbers change text →
      KeyMoves change.maps (read_points (old_reading change) numbers text) (read_points (new_reading change) numbers text)
  moves numbers text stays =
      images_move change.maps is.maps (old_read numbers text) (new_read numbers text) (nfd text) stays.scalars (images_stay numbers text stays)

  -- runs over both tables that are asked for the same go by one weighting
  chosen : (asked : Option Weighting) → new_weighting change asked ≡ old_weighting change asked
  chosen None = sym (accepted SettingChanged)
  chosen (Some weighting) = refl

  -- so the keys of a store are those under the new reading
  stored_is_new : (asked : Asked) (text key : List ℕ) →
      IsStoredKey change (old_reading change) (new_reading change) asked text key →
      key ≡ text_key (new_reading change) (new_settings change asked) text
  stored_is_new asked text key stored =
      ⊎_elim
      (λ made. made)
      (λ kept. kept_is_new change.maps (read_points (old_reading change) asked.numbers text)
      (read_points (new_reading change) asked.numbers text) (moves asked.numbers text kept.0) asked.depth (old_weighting change asked.weighting) key kept.1
      ∙ ap (λ w. text_key (new_reading change) (record { weighting = w; depth = asked.depth; numbers = asked.numbers }) text) (sym (chosen asked.weighting)))
      stored

  -- the law for the lookups of the tables themselves
  pub own_texts : UnaffectedTextsStay change (old_reading change) (new_reading change)
  own_texts =
      record {
        chosen = chosen;
        moves = moves;
        compared = λ asked left right first second.
            ap (λ w. texts_compared (new_reading change) (record { weighting = w; depth = asked.depth; numbers = asked.numbers }) left right) (chosen asked.weighting)
            ∙ images_compare change.maps is.maps asked.depth (old_weighting change asked.weighting) (nfd left) (nfd right)
            (old_read asked.numbers left) (old_read asked.numbers right) (new_read asked.numbers left) (new_read asked.numbers right)
            (images_stay asked.numbers left first) (images_stay asked.numbers right second);
        ordered = λ asked left right left_key right_key first second.
            ap₂ lexicographic (stored_is_new asked left left_key first) (stored_is_new asked right right_key second)
            ∙ depth_order asked.depth (new_weighting change asked.weighting) (read_points (new_reading change) asked.numbers left)
            (read_points (new_reading change) asked.numbers right);
        levels = λ asked left right left_key right_key first second.
            ap₂ (stored_level (levels_at asked.depth (new_weighting change asked.weighting))) (stored_is_new asked left left_key first)
            (stored_is_new asked right right_key second)
            ∙ depth_level asked.depth (new_weighting change asked.weighting) (read_points (new_reading change) asked.numbers left)
            (read_points (new_reading change) asked.numbers right);
      }

-- and for others that find the same
pub unaffected_stay : ChangesKeepUnaffectedTexts
unaffected_stay change old new is accepted old_reads new_reads =
    subst₂ (UnaffectedTextsStay change) (sym (same_reading old (old_reading change) old_reads))
    (sym (same_reading new (new_reading change) new_reads)) (own_texts change is accepted)
