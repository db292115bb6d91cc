-- Texts in which no target occurs in order compare as before, and keep their keys where no weight is changed.
use Rattle.std.proofs.Common.{◌≡◌, ℕ, zero, suc, List, [], ◌∷◌, ◌++◌, ⊎_elim, refl, sym, ap, ap₂, subst}
use Rattle.std.specs.Char.{IsScalar}
use Rattle.uca_weights.specs.declared.Depth.{Depth}
use Rattle.uca_weights.specs.declared.Depth.TheVariants.{Weights, Identical}
use Rattle.uca_weights.specs.declared.Element.{Element}
use Rattle.uca_weights.specs.declared.Weighting.{Weighting}
use Rattle.uca_weights.specs.declared.Weighting.TheVariants.{NonIgnorable, Shifted}
use Rattle.uca_values.specs.Content.{HeaderContent}
use Rattle.uca_values.specs.Implicit.{implicit}
use Rattle.uca_weights.proofs.Lists.{each_weaker}
use Rattle.uca_text.specs.Texts.{NfdText, classed, code_points}
use Rattle.uca_text.specs.Limits.{IsNormal}
use Rattle.uca_text.specs.Occurring.{OccursInOrder}
use Rattle.uca_text.proofs.Texts.{letters_occur}
use Rattle.uca_text.proofs.Occurring.{occurs_trans, each_occurring}
use Rattle.uca_relations.specs.declared.Relation.{Relation}
use Rattle.uca_relations.specs.Relations.{IsTarget, IsUntouched}
use Rattle.uca_elements.specs.Rows.{rows_of}
use Rattle.uca_elements.specs.Collations.{elements_of}
use Rattle.uca_elements.proofs.RelatedReading.{read_related}
use Rattle.uca_order.specs.Levels.{Weights as ElementWeights, level_list, level_lists_from, weighted, decided, lexicographic, compare_from}
use Rattle.uca_order.specs.Depths.{compared_at, key_at}
use Rattle.uca_tailorings.specs.Images.{Maps, AreRisingMaps, AreImages, KeepAllWeights}
use Rattle.uca_tailorings.specs.Tailorings.{Tailoring, IsTailoring, IsAccepted, base_reading, tailored_reading}
use Rattle.uca_tailorings.specs.Meaning.{CompareAsBefore, KeepsKey}
use Rattle.uca_tailorings.specs.declared.conditions.Condition.TheVariants.{Header}
use Rattle.uca_tailorings.proofs.ImplicitImages.{own_implicit}
use Rattle.uca_tailorings.proofs.RowConditions.{row_kept}
use Rattle.uca_tailorings.proofs.Images.{images-append, kept_images}
use Rattle.uca_tailorings.proofs.WeightedImages.{images_order}
use borrow.Table.Char.{scalar_below}

-- ---- Readings

-- what occurs in an untouched text is no target
pub no_target : (relations : List Relation) (key text : List ℕ) → IsUntouched relations text → OccursInOrder key text → ¬ (IsTarget relations key)
no_target [] key text untouched occurs target = target
no_target (r ∷ relations) key text untouched occurs target =
    ⊎_elim
    (λ same. untouched.0 (subst (λ points. OccursInOrder points text) (sym same) occurs))
    (λ later. no_target relations key text untouched.1 occurs later)
    target

-- an untouched text reads as the images of what it read as before
pub images_read : (tailoring : Tailoring) → IsTailoring tailoring → IsAccepted tailoring → (text : NfdText) → IsNormal text →
    IsUntouched tailoring.relations text.points →
    AreImages tailoring.maps (elements_of (base_reading tailoring) text) (elements_of (tailored_reading tailoring) text)
images_read tailoring is accepted text normal untouched =
    read_related (AreImages tailoring.maps) tt (images-append tailoring.maps) old (new tailoring.tailored.header) (rows_of tailoring.base.rows)
    (rows_of tailoring.tailored.rows) (classed text)
    (record {
      at_keys = λ key occurs.
          row_kept tailoring accepted key
          (no_target tailoring.relations key text.points untouched (occurs_trans key (code_points (classed text)) text.points occurs points));
      at_points =
          each_occurring (λ c. AreImages tailoring.maps (old c) (new tailoring.tailored.header c)) (code_points (classed text)) text.points points
          (each_weaker IsScalar (λ c. AreImages tailoring.maps (old c) (new tailoring.tailored.header c)) own text.points normal.scalars);
    })
  where
    -- the implicit weights under the base
    old : ℕ → List Element
    old = implicit tailoring.base.header.ranges tailoring.properties

    -- those under a header
    new : HeaderContent → ℕ → List Element
    new header = implicit header.ranges tailoring.properties

    -- the code points of its letters occur in the text
    points : OccursInOrder (code_points (classed text)) text.points
    points = letters_occur text.points text.classes

    -- they are images of each other
    own : (c : ℕ) → IsScalar c → AreImages tailoring.maps (old c) (new tailoring.tailored.header c)
    own c scalar =
        subst (λ header. AreImages tailoring.maps (old c) (new header c)) (accepted Header)
        (own_implicit tailoring.maps is.maps tailoring.base.header.ranges tailoring.properties is.base.header.ranges c (scalar_below c scalar))

-- ---- Comparison

-- if the lists of each level have the order that they had, so do the texts, with anything after the levels
levels_alike : (n from : ℕ) (ls rs xs ys : List ElementWeights) (left right : List (List ℕ)) →
    ((level : ℕ) → lexicographic (level_list level xs) (level_list level ys) ≡ lexicographic (level_list level ls) (level_list level rs)) →
    compare_from from (level_lists_from from n xs ++ left) (level_lists_from from n ys ++ right)
    ≡ compare_from from (level_lists_from from n ls ++ left) (level_lists_from from n rs ++ right)
levels_alike zero from ls rs xs ys left right same = refl
levels_alike (suc n) from ls rs xs ys left right same =
    ap₂ (λ order later. decided order from later) (same from) (levels_alike n (suc from) ls rs xs ys left right same)

-- images compare as the elements, at either depth
pub images_compare : (maps : Maps) → AreRisingMaps maps → (depth : Depth) (weighting : Weighting) (left right : List ℕ) (ls rs xs ys : List Element) →
    AreImages maps ls xs → AreImages maps rs ys →
    compared_at depth weighting (record { elements = xs; points = left }) (record { elements = ys; points = right })
    ≡ compared_at depth weighting (record { elements = ls; points = left }) (record { elements = rs; points = right })
images_compare maps rising Weights NonIgnorable left right ls rs xs ys first second =
    levels_alike 3 1 (weighted NonIgnorable ls) (weighted NonIgnorable rs) (weighted NonIgnorable xs) (weighted NonIgnorable ys) [] []
    (images_order maps rising NonIgnorable ls rs xs ys first second)
images_compare maps rising Weights Shifted left right ls rs xs ys first second =
    levels_alike 4 1 (weighted Shifted ls) (weighted Shifted rs) (weighted Shifted xs) (weighted Shifted ys) [] []
    (images_order maps rising Shifted ls rs xs ys first second)
images_compare maps rising Identical NonIgnorable left right ls rs xs ys first second =
    levels_alike 3 1 (weighted NonIgnorable ls) (weighted NonIgnorable rs) (weighted NonIgnorable xs) (weighted NonIgnorable ys) (left ∷ []) (right ∷ [])
    (images_order maps rising NonIgnorable ls rs xs ys first second)
images_compare maps rising Identical Shifted left right ls rs xs ys first second =
    levels_alike 4 1 (weighted Shifted ls) (weighted Shifted rs) (weighted Shifted xs) (weighted Shifted ys) (left ∷ []) (right ∷ [])
    (images_order maps rising Shifted ls rs xs ys first second)

-- untouched texts compare as before
pub untouched_compare : (tailoring : Tailoring) → IsTailoring tailoring → IsAccepted tailoring → (depth : Depth) (weighting : Weighting)
    (left right : NfdText) → IsNormal left → IsNormal right → IsUntouched tailoring.relations left.points →
    IsUntouched tailoring.relations right.points → CompareAsBefore tailoring depth weighting left right
untouched_compare tailoring is accepted depth weighting left right first second untouched_left untouched_right =
    images_compare tailoring.maps is.maps depth weighting left.points right.points
    (elements_of (base_reading tailoring) left) (elements_of (base_reading tailoring) right)
    (elements_of (tailored_reading tailoring) left) (elements_of (tailored_reading tailoring) right)
    (images_read tailoring is accepted left first untouched_left) (images_read tailoring is accepted right second untouched_right)

-- and keep their keys where no weight is changed
pub untouched_keys : (tailoring : Tailoring) → IsTailoring tailoring → IsAccepted tailoring → KeepAllWeights tailoring.maps → (depth : Depth)
    (weighting : Weighting) (text : NfdText) → IsNormal text → IsUntouched tailoring.relations text.points → KeepsKey tailoring depth weighting text
untouched_keys tailoring is accepted keep depth weighting text normal untouched =
    ap (λ elements. key_at depth weighting (record { elements = elements; points = text.points }))
    (sym (kept_images tailoring.maps keep (elements_of (base_reading tailoring) text) (elements_of (tailored_reading tailoring) text)
    (images_read tailoring is accepted text normal untouched)))
