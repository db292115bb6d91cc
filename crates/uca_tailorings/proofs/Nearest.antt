-- Where each weight of the tailored table comes from, and why each target is next to its anchor.
use Rattle.std.proofs.Common.{◌≡◌, ◌⊎◌, inl, inr, ⊎_elim, ℕ, ◌<◌, ◌≤◌, List, [], ◌∷◌, ◌++◌, map, Option, Some, None, Contains}
use Rattle.std.proofs.Common.{refl, sym, ap, subst, ◌∙◌, arith, nat_eq}
use Rattle.std.specs.List.{AllByRecursion}
use Rattle.std.proofs.lemmas.Bool.{cond_both}
use Rattle.std.proofs.lemmas.List.Elements.{recursion_from_All, All-from_recursion, All-contains, All-contains_itself}
use Rattle.uca_weights.specs.declared.Element.{Element}
use Rattle.uca_weights.specs.declared.Level.{Level}
use Rattle.uca_weights.specs.declared.Level.TheVariants.{One, Two, Three}
use Rattle.uca_weights.specs.Levels.{weight, level_of}
use Rattle.uca_weights.specs.Maps.{Sends, IsRisingMap}
use Rattle.uca_values.specs.Content.{Entry}
use Rattle.uca_values.specs.Implicit.{implicit_pair, implicit}
use Rattle.uca_relations.specs.declared.Relation.{Relation}
use Rattle.uca_relations.specs.Relations.{IsTarget}
use Rattle.uca_elements.specs.Rows.{rows_of}
use Rattle.uca_elements.specs.Laws.{AreRelatedRows}
use Rattle.uca_weights.proofs.PerLevel.{holds_at}
use Rattle.uca_elements.proofs.RowsByKey.{row_of_found, found_of_row}
use Rattle.uca_weights.specs.PerLevel.{at_level}
use Rattle.uca_tailorings.specs.Images.{Maps, AreRisingMaps, IsImage, AreImages}
use Rattle.uca_tailorings.specs.Placing.{IsLow, reset, reweighted, placed}
use Rattle.uca_tailorings.specs.Tailorings.{Tailoring, IsTailoring, anchor_elements, expansion_elements, IsPlacedAt, IsPlacedBy, IsPlaced}
use Rattle.uca_tailorings.specs.Tailorings.{IsNewWeight, IsPairWeight, IsKnownWeight, IsBetween}
use Rattle.uca_tailorings.specs.Tailorings.{AllRelations, IsAccepted}
use Rattle.uca_tailorings.specs.Meaning.{IsTailoredWeight, StandsNearestAt, NearestAt, StandsNearest}
use Rattle.uca_tailorings.specs.declared.conditions.Condition.TheVariants.{NotPlaced, NotFresh, NotNearest}
use Rattle.uca_tailorings.proofs.RowConditions.{row_kept}
use Rattle.uca_values.proofs.ImplicitPairs.{each_pair}
use Rattle.uca_weights.proofs.Lists.{each_append, each_parts}
use Rattle.uca_tailorings.proofs.Parts.{of_part}
use Rattle.uca_tailorings.proofs.Sound.{zero_or_not}
use Rattle.uca_tailorings.proofs.Relating.{one_new}
use Rattle.uca_tailorings.proofs.TailoredWeights.{IsMade, each_of_rows}

-- ---- Sources

-- at level 1 implicit weights are from 8000 up
abbrev pub IsHigh : Level → ℕ → Type 0
IsHigh One w = 0x8000 ≤ w
IsHigh Two w = ⊥
IsHigh Three w = ⊥

-- it is 0, a weight that the base gave, the new weight of a relation, or one of implicit weights
abbrev pub HasSource : Tailoring → Level → ℕ → Type 0
HasSource tailoring level w = (w ≡ 0) ⊎ (IsKnownWeight tailoring level w ⊎ (IsNewWeight tailoring level w tailoring.relations ⊎ IsHigh level w))

-- the element's weight at the level has a source
abbrev pub IsFounded : Tailoring → Level → Element → Type 0
IsFounded tailoring level e = HasSource tailoring level (weight level e)

-- a new weight is one of the earlier relations, of this one, or of the later ones
pub new_cases : (tailoring : Tailoring) (level : Level) (w : ℕ) (before : List Relation) (r : Relation) (after : List Relation) →
    IsNewWeight tailoring level w (before ++ r ∷ after) →
    IsNewWeight tailoring level w before ⊎ (((old : ℕ) × IsPlacedAt tailoring r level old w) ⊎ IsNewWeight tailoring level w after)
new_cases tailoring level w [] r after new = inr new
new_cases tailoring level w (q ∷ before) r after new =
    ⊎_elim (λ here. inl (inl here)) (λ later. ⊎_elim (λ first. inl (inr first)) (λ rest. inr rest) (new_cases tailoring level w before r after later)) new

-- the new weight of a relation is one of all
new_of_part : (tailoring : Tailoring) (level : Level) (old w : ℕ) (before : List Relation) (r : Relation) (after : List Relation) →
    IsPlacedAt tailoring r level old w → IsNewWeight tailoring level w (before ++ r ∷ after)
new_of_part tailoring level old w [] r after at = inl (old, at)
new_of_part tailoring level old w (q ∷ before) r after at = inr (new_of_part tailoring level old w before r after at)

-- ---- Images and implicit weights

-- the image at a level
image_at : (level : Level) (maps : Maps) (e f : Element) → IsImage maps e f → Sends (at_level level maps) (weight level e) (weight level f)
image_at One maps e f image = image.primary
image_at Two maps e f image = image.secondary
image_at Three maps e f image = image.tertiary

-- no map changes 0
zero_at : (level : Level) (maps : Maps) → AreRisingMaps maps → Sends (at_level level maps) 0 0
zero_at level maps rising = (holds_at IsRisingMap level maps rising).zero

module _ (tailoring : Tailoring) (is : IsTailoring tailoring) (accepted : IsAccepted tailoring) (level : Level) where
  -- the image of an element of a base row
  image_source : (row : Entry) → Contains tailoring.base.rows row → (e f : Element) → Contains row.elements e →
      IsImage tailoring.maps e f → IsFounded tailoring level f
  image_source row is_row e f is_element image =
      let sent : Sends (at_level level tailoring.maps) (weight level e) (weight level f) = image_at level tailoring.maps e f image in
      ⊎_elim
      (λ none.
      let same : Some (weight level f) ≡ Some 0 = sym sent ∙ ap (at_level level tailoring.maps) none ∙ zero_at level tailoring.maps is.maps in
      inl (let zero_there : weight level f ≡ 0 = cc in zero_there))
      (λ some. inr (inl (inl (record { row = row; is_row = is_row; element = e; is_element = is_element; some = some; image = sent }))))
      (zero_or_not (weight level e))

  -- the images of elements of a base row
  image_sources : (row : Entry) → Contains tailoring.base.rows row → (es fs : List Element) → AllByRecursion (Contains row.elements) es →
      AreImages tailoring.maps es fs → AllByRecursion (IsFounded tailoring level) fs
  image_sources row is_row [] [] within images = tt
  image_sources row is_row [] (f ∷ fs) within images = absurd images
  image_sources row is_row (e ∷ es) [] within images = absurd images
  image_sources row is_row (e ∷ es) (f ∷ fs) within images =
      (image_source row is_row e f within.0 images.0, image_sources row is_row es fs within.1 images.1)

  -- the row of a key that is no target
  at_others : (key : List ℕ) (row : List Element) → ¬ (IsTarget tailoring.relations key) → rows_of tailoring.tailored.rows key ≡ Some row →
      AllByRecursion (IsFounded tailoring level) row
  at_others key row other found = by_old (rows_of tailoring.base.rows key) refl
    where
      related : AreRelatedRows (AreImages tailoring.maps) (rows_of tailoring.base.rows key) (Some row)
      related = subst (AreRelatedRows (AreImages tailoring.maps) (rows_of tailoring.base.rows key)) found (row_kept tailoring accepted key other)

      by_old : (old : Option (List Element)) → rows_of tailoring.base.rows key ≡ old → AllByRecursion (IsFounded tailoring level) row
      by_old None at_base = absurd (subst (λ o. AreRelatedRows (AreImages tailoring.maps) o (Some row)) at_base related)
      by_old (Some old) at_base =
          let images = subst (λ o. AreRelatedRows (AreImages tailoring.maps) o (Some row)) at_base related in
          image_sources (record { key = key; elements = old }) (row_of_found tailoring.base.rows key old at_base) old row
          (recursion_from_All (Contains old) old (All-contains_itself old)) images

-- implicit weights
pair_sources : (tailoring : Tailoring) (level : Level) (lead low : ℕ) → 0xFB00 ≤ lead → lead ≤ 0xFBFF → low < 0x8000 →
    AllByRecursion (IsFounded tailoring level) (implicit_pair lead low)
pair_sources tailoring One lead low high fits near = (inr (inr (inr (omega (arith, high)))), (inr (inr (inr (omega arith))), tt))
pair_sources tailoring Two lead low high fits near = (inr (inl (inr refl)), (inl refl, tt))
pair_sources tailoring Three lead low high fits near = (inr (inl (inr refl)), (inl refl, tt))

-- ---- Targets

-- a weight that is reset is 0 or the default
reset_source : (tailoring : Tailoring) (level : Level) (w default : ℕ) → IsPairWeight level default → HasSource tailoring level (reset w default)
reset_source tailoring level w default pair =
    cond_both (nat_eq w 0) 0 default (HasSource tailoring level) (λ none. inl refl) (λ some. inr (inl (inr pair)))

-- an element with a new weight
changed_source : (tailoring : Tailoring) (level at : Level) (new : ℕ) (e : Element) → HasSource tailoring level (weight level e) →
    (at ≡ level → IsNewWeight tailoring level new tailoring.relations) → HasSource tailoring level (weight level (reweighted at new e))
changed_source tailoring One One new e has is_new = inr (inr (inl (is_new refl)))
changed_source tailoring One Two new e has is_new = has
changed_source tailoring One Three new e has is_new = has
changed_source tailoring Two One new e has is_new = reset_source tailoring Two e.secondary 0x20 refl
changed_source tailoring Two Two new e has is_new = inr (inr (inl (is_new refl)))
changed_source tailoring Two Three new e has is_new = has
changed_source tailoring Three One new e has is_new = reset_source tailoring Three e.tertiary 2 refl
changed_source tailoring Three Two new e has is_new = reset_source tailoring Three e.tertiary 2 refl
changed_source tailoring Three Three new e has is_new = inr (inr (inl (is_new refl)))

-- the elements of a target, where those of anchor and expansion have sources
made_by : (tailoring : Tailoring) (level : Level) (before : List Relation) (r : Relation) (after : List Relation) →
    tailoring.relations ≡ before ++ r ∷ after → (at : Option Level) → IsPlacedBy tailoring r at →
    IsMade (IsFounded tailoring level) tailoring r
made_by tailoring level before r after whole None placement anchor expansion row found =
    let same : Some (anchor_elements tailoring r ++ expansion_elements tailoring r) ≡ Some row = sym placement ∙ found in
    let is : anchor_elements tailoring r ++ expansion_elements tailoring r ≡ row = cc in
    subst (AllByRecursion (IsFounded tailoring level)) is
    (each_append (IsFounded tailoring level) (anchor_elements tailoring r) (expansion_elements tailoring r) anchor expansion)
made_by tailoring level before r after whole (Some strength) placement anchor expansion row found =
    let new = placement.1 in
    let at : IsPlacedAt tailoring r strength placement.0 new = placement.2 in
    let changed : Element = reweighted strength new at.last in
    let same : Some (placed strength at.before at.last (expansion_elements tailoring r) new) ≡ Some row = sym at.row ∙ found in
    let is : placed strength at.before at.last (expansion_elements tailoring r) new ≡ row = cc in
    let parts = each_parts (IsFounded tailoring level) at.before (at.last ∷ at.trailing)
    (subst (AllByRecursion (IsFounded tailoring level)) at.anchor.whole anchor) in
    let is_new : strength ≡ level → IsNewWeight tailoring level new tailoring.relations =
    λ same_level. subst (λ l. IsNewWeight tailoring l new tailoring.relations) same_level
    (subst (IsNewWeight tailoring strength new) (sym whole) (new_of_part tailoring strength placement.0 new before r after at)) in
    subst (AllByRecursion (IsFounded tailoring level)) is
    (each_append (IsFounded tailoring level) at.before (changed ∷ expansion_elements tailoring r) parts.0
    (changed_source tailoring level strength new at.last parts.1.0 is_new, expansion))

-- ---- All weights of the tailored table

-- what is true of a function's values at each member is true of each member of the mapped list
each_mapped : {X Y : Type 0} (P : Y → Type 0) (f : X → Y) (xs : List X) → AllByRecursion (λ x. P (f x)) xs → AllByRecursion P (map f xs)
each_mapped P f [] all = tt
each_mapped P f (x ∷ xs) all = (all.0, each_mapped P f xs all.1)

-- each weight of the tailored table has a source
pub source : (tailoring : Tailoring) → IsTailoring tailoring → IsAccepted tailoring → (level : Level) (w : ℕ) → IsTailoredWeight tailoring level w →
    HasSource tailoring level w
source tailoring is accepted level w weight_there =
    ⊎_elim
    (λ of_row. one of_row.row.elements w
    (each_of_rows (IsFounded tailoring level) tailoring is accepted at_points (at_others tailoring is accepted level) made of_row.row.key of_row.row.elements
    (found_of_row tailoring.tailored.rows is.tailored.rows.distinct of_row.row of_row.is_row))
    of_row.is_weight)
    (λ of_point. one (implicit tailoring.tailored.header.ranges tailoring.properties of_point.point) w (at_points of_point.point of_point.is_point)
    of_point.is_weight)
    weight_there
  where
    at_points : (c : ℕ) → c < 0x11_0000 → AllByRecursion (IsFounded tailoring level) (implicit tailoring.tailored.header.ranges tailoring.properties c)
    at_points c within =
        each_pair (AllByRecursion (IsFounded tailoring level)) (pair_sources tailoring level) tailoring.tailored.header.ranges tailoring.properties
        is.tailored.header.ranges c within

    made : (before : List Relation) (r : Relation) (after : List Relation) → tailoring.relations ≡ before ++ r ∷ after →
        IsMade (IsFounded tailoring level) tailoring r
    made before r after whole =
        made_by tailoring level before r after whole (level_of r.strength)
        (of_part (IsPlaced tailoring) tailoring.relations before r after (accepted NotPlaced) whole)

    one : (es : List Element) (v : ℕ) → AllByRecursion (IsFounded tailoring level) es → Contains (map (weight level) es) v → HasSource tailoring level v
    one es v each there =
        All-contains (HasSource tailoring level) (map (weight level) es) v
        (All-from_recursion (HasSource tailoring level) (map (weight level) es) (each_mapped (HasSource tailoring level) (weight level) es each)) there

-- ---- Targets are next to their anchors

-- no high weight lies between two low ones
pub not_high : (level : Level) (old new w : ℕ) → IsLow level old → IsLow level new → IsHigh level w → ¬ (IsBetween old new w)
not_high One old new w old_low new_low high between =
    ⊎_elim (λ up. omega (arith, old_low, new_low, high, up.0, up.1)) (λ down. omega (arith, old_low, new_low, high, down.0, down.1)) between
not_high Two old new w old_low new_low high between = high
not_high Three old new w old_low new_low high between = high

-- nor does 0 lie between two weights
not_zero : (old new w : ℕ) → w ≡ 0 → ¬ (IsBetween old new w)
not_zero old new w none between = ⊎_elim (λ up. omega (arith, none, up.0)) (λ down. omega (arith, none, down.0)) between

-- nor the new weight itself
not_itself : (old new w : ℕ) → new ≡ w → ¬ (IsBetween old new w)
not_itself old new w same between = ⊎_elim (λ up. omega (arith, same, up.1)) (λ down. omega (arith, same, down.0)) between

-- only the new weights of later relations lie between the two weights of a relation
nearest_at : (tailoring : Tailoring) → IsTailoring tailoring → IsAccepted tailoring → (before : List Relation) (r : Relation) (after : List Relation) →
    tailoring.relations ≡ before ++ r ∷ after → (level : Level) (old new : ℕ) → IsPlacedAt tailoring r level old new →
    StandsNearestAt tailoring before after level old new
nearest_at tailoring is accepted before r after whole level old new at =
    let fresh = accepted NotFresh before r after whole level old new at in
    let nearest = accepted NotNearest before r after whole level old new at in
    record {
      fresh = fresh;
      between = λ w there between.
          ⊎_elim
          (λ none. absurd (not_zero old new w none between))
          (λ some. ⊎_elim
          (λ known. absurd (nearest.known w known between))
          (λ other. ⊎_elim
          (λ is_new. ⊎_elim
          (λ earlier. absurd (nearest.earlier w earlier between))
          (λ behind. ⊎_elim
          (λ own. absurd (not_itself old new w (one_new tailoring r level old new own.0 w at own.1) between))
          (λ later. later)
          behind)
          (new_cases tailoring level w before r after (subst (IsNewWeight tailoring level w) whole is_new)))
          (λ high. absurd (not_high level old new w (subst (IsLow level) at.old_weight at.anchor.low) fresh.low high between))
          other)
          some)
          (source tailoring is accepted level w there);
    }

-- so each target is next to its anchor, if its relation puts a new weight
nearest_by : (tailoring : Tailoring) → IsTailoring tailoring → IsAccepted tailoring → (before : List Relation) (r : Relation) (after : List Relation) →
    tailoring.relations ≡ before ++ r ∷ after → (level : Option Level) → IsPlacedBy tailoring r level → NearestAt tailoring before r after level
nearest_by tailoring is accepted before r after whole None placement = tt
nearest_by tailoring is accepted before r after whole (Some level) placement =
    (placement.0, placement.1, placement.2, nearest_at tailoring is accepted before r after whole level placement.0 placement.1 placement.2)

-- the target of each relation of an accepted tailoring is next to its anchor
pub all_nearest : (tailoring : Tailoring) → IsTailoring tailoring → IsAccepted tailoring → AllRelations (StandsNearest tailoring) tailoring.relations
all_nearest tailoring is accepted before r after whole =
    nearest_by tailoring is accepted before r after whole (level_of r.strength)
    (of_part (IsPlaced tailoring) tailoring.relations before r after (accepted NotPlaced) whole)
