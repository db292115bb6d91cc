-- Lookups that find the same rows read texts alike.
use Rattle.std.proofs.Common.{◌≡◌, sym, ap, subst₂, ◌∙◌}
use Rattle.uca_elements.specs.Collations.{Collation}
use Rattle.uca_order.specs.Depths.{read_text}
use Rattle.uca_order.proofs.DepthOrder.{depth_order, depth_level}
use Rattle.uca_tailorings.specs.Tailorings.{Tailoring, base_reading, tailored_reading}
use Rattle.uca_tailorings.specs.Meaning.{IsFaithful}
use Rattle.uca_tailorings.specs.Laws.{ReadsAs, UntouchedTextsStay, FaithfulTailoringsKeepUntouchedTexts}

-- what agrees in all rows, the ranges and the properties is the same
pub same_reading : (given reading : Collation) → ReadsAs given reading → given ≡ reading
same_reading given reading reads i = record { rows = λ key. reads.rows key i; ranges = reads.ranges i; properties = reads.properties i }

-- the law for the lookups of the tables themselves
own_lookups : (tailoring : Tailoring) → IsFaithful tailoring → UntouchedTextsStay tailoring (base_reading tailoring) (tailored_reading tailoring)
own_lookups tailoring faithful =
    record {
      compared = faithful.untouched;
      ordered = λ depth weighting left right first second untouched_left untouched_right.
          depth_order depth weighting (read_text (tailored_reading tailoring) left) (read_text (tailored_reading tailoring) right)
          ∙ ap (λ comparison. comparison.order) (faithful.untouched depth weighting left right first second untouched_left untouched_right)
          ∙ sym (depth_order depth weighting (read_text (base_reading tailoring) left) (read_text (base_reading tailoring) right));
      levels = λ depth weighting left right first second untouched_left untouched_right.
          depth_level depth weighting (read_text (tailored_reading tailoring) left) (read_text (tailored_reading tailoring) right)
          ∙ ap (λ comparison. comparison.level) (faithful.untouched depth weighting left right first second untouched_left untouched_right)
          ∙ sym (depth_level depth weighting (read_text (base_reading tailoring) left) (read_text (base_reading tailoring) right));
      keys = faithful.keys;
    }

-- and for others that find the same
pub lookups_agree : FaithfulTailoringsKeepUntouchedTexts
lookups_agree tailoring old new faithful old_reads new_reads =
    subst₂ (UntouchedTextsStay tailoring) (sym (same_reading old (base_reading tailoring) old_reads))
    (sym (same_reading new (tailored_reading tailoring) new_reads)) (own_lookups tailoring faithful)
