-- The set of the images of all weights of the base, filled element by element: these are the known weights.
use Rattle.std.proofs.Common.{◌≡◌, ◌⊎◌, inl, inr, ⊎_elim, ◌↔◌, ℕ, ◌+◌, ◌<◌, ◌≤◌, length, take, get_or, ◌∙◌, List, [], ◌∷◌, ◌++◌, refl, sym}
use Rattle.std.proofs.Common.{ap, subst, arith}
use Rattle.std.proofs.lemmas.List.{take_all, flat_map_more}
use Rattle.std.proofs.lemmas.List.Elements.{Contains-push, Contains-push_cases, Contains-append_left}
use Rattle.uca_weights.specs.declared.Element.{Element}
use Rattle.uca_weights.specs.declared.Level.{Level}
use Rattle.uca_weights.specs.declared.Level.TheVariants.{One, Two, Three}
use Rattle.uca_weights.specs.Levels.{weight, level_number}
use Rattle.uca_weights.specs.declared.maps.Run.{Run}
use Rattle.uca_weights.specs.Maps.{WeightImages}
use Rattle.uca_weights.specs.Runs.{weight_image, MapContent}
use Rattle.uca_values.specs.Content.{Entry}
use Rattle.uca_check.specs.WellFormed.{elements_of}
use Rattle.uca_weights.proofs.Lists.{taken_more}
use Rattle.uca_check.proofs.RowElements.{none_contained, row_of_element, element_of_row}
use Rattle.uca_weights.specs.PerLevel.{at_level}
use Rattle.uca_tailorings.specs.Images.{Maps}
use Rattle.uca_tailorings.specs.Tailorings.{Tailoring, IsPairWeight}
use Rattle.uca_audit.specs.inside.WeightSets.{Flags, HasWeight}
use Rattle.uca_audit.specs.inside.KnownWeights.{IsImageOf, HoldsImages}
use Rattle.uca_audit.specs.inside.NewWeights.{HoldsKnown}

-- ---- Elements of rows

-- the elements of one more row
pub row_more : (rows : List Entry) (i n : ℕ) (row : Entry) (items : List Element) → i < length rows → row ≡ get_or rows i row →
    items ≡ row.elements → length items ≤ n → elements_of (take i rows) ++ take n items ≡ elements_of (take (i + 1) rows)
row_more rows i n row items within there same whole =
    ap (λ l. elements_of (take i rows) ++ l) (take_all n items whole ∙ same)
    ∙ flat_map_more (λ (r : Entry). r.elements) [] (take i rows) row
    ∙ ap elements_of (sym (taken_more rows i row within there))

-- the images of all elements of the base's rows are the known weights
pub known_of_images : (tailoring : Tailoring) (set : Flags) → HoldsImages tailoring.maps (elements_of tailoring.base.rows) set → HoldsKnown tailoring set
known_of_images tailoring set holds level w = (
  (λ has. ⊎_elim
      (λ image. let (e, is, sent) = image in
      let (row, is_row, there) = row_of_element tailoring.base.rows e is in
      inl (record { row = row; is_row = is_row; element = e; is_element = there; some = sent.0; image = sent.1 }))
      (λ pair. inr pair)
      ((holds level w).0 has)),
  λ known. (holds level w).1 (⊎_elim
      (λ image. inl (image.element, element_of_row tailoring.base.rows image.row image.element image.is_row image.is_element, (image.some, image.image)))
      (λ pair. inr pair)
      known),
)

-- ---- The weights of implicit weights

-- they alone are the known weights of no elements
pub pairs_alone : (maps : Maps) (set : Flags) → ((level : Level) (w : ℕ) → HasWeight set level w ↔ IsPairWeight level w) → HoldsImages maps [] set
pairs_alone maps set pairs level w = (
  (λ has. inr ((pairs level w).0 has)),
  λ is_one. (pairs level w).1 (⊎_elim (λ image. absurd (none_contained image.0 image.1)) (λ pair. pair) is_one),
)

-- ---- One more element

-- the set has the image of a weight of the element, at its level
abbrev pub AddsImage : Flags → Flags → Level → WeightImages → ℕ → Type 0
AddsImage old new level images v = (l : Level) (w : ℕ) → HasWeight new l w ↔ (((l ≡ level) × IsImageOf images v w) ⊎ HasWeight old l w)

-- by a map of that level
pub adds_by_map : (old new : Flags) (level : Level) (map : MapContent) (runs : List Run) (v : ℕ) → map.level ≡ level → map.runs ≡ runs →
    AddsImage old new level (weight_image map.level map.runs) v → AddsImage old new level (weight_image level runs) v
adds_by_map old new level map runs v same_level same_runs adds =
    subst (λ rs. AddsImage old new level (weight_image level rs) v) same_runs
    (subst (λ l. AddsImage old new level (weight_image l map.runs) v) same_level adds)

-- what is added at that level
added_here : (old new : Flags) (level : Level) (images : WeightImages) (v : ℕ) → AddsImage old new level images v → (w : ℕ) →
    HasWeight new level w ↔ (IsImageOf images v w ⊎ HasWeight old level w)
added_here old new level images v adds w = (
  (λ has. ⊎_elim (λ own. inl own.1) (λ had. inr had) ((adds level w).0 has)),
  λ is_one. (adds level w).1 (⊎_elim (λ own. inl (refl, own)) (λ had. inr had) is_one),
)

-- at another level nothing changes
same_there : (old new : Flags) (level : Level) (images : WeightImages) (v : ℕ) → AddsImage old new level images v → (l : Level) →
    ¬ (level_number l ≡ level_number level) → (w : ℕ) → HasWeight new l w ↔ HasWeight old l w
same_there old new level images v adds l other w = (
  (λ has. ⊎_elim (λ own. absurd (other (ap level_number own.0))) (λ had. had) ((adds l w).0 has)),
  λ had. (adds l w).1 (inr had),
)

module _ (maps : Maps) (e : Element) (old one two three : Flags) (primary : AddsImage old one One maps.primary e.primary)
    (secondary : AddsImage one two Two maps.secondary e.secondary) (tertiary : AddsImage two three Three maps.tertiary e.tertiary) where
  -- the images of the element, and what was there
  added : (l : Level) (w : ℕ) → HasWeight three l w ↔ (IsImageOf (at_level l maps) (weight l e) w ⊎ HasWeight old l w)
  added One w =
      let here = added_here old one One maps.primary e.primary primary w in
      let second = same_there one two Two maps.secondary e.secondary secondary One (λ e. omega arith) w in
      let third = same_there two three Three maps.tertiary e.tertiary tertiary One (λ e. omega arith) w in
      (λ has. here.0 (second.0 (third.0 has)), λ is. third.1 (second.1 (here.1 is)))
  added Two w =
      let first = same_there old one One maps.primary e.primary primary Two (λ e. omega arith) w in
      let here = added_here one two Two maps.secondary e.secondary secondary w in
      let third = same_there two three Three maps.tertiary e.tertiary tertiary Two (λ e. omega arith) w in (
        (λ has. ⊎_elim (λ own. inl own) (λ had. inr (first.0 had)) (here.0 (third.0 has))),
        λ is. third.1 (here.1 (⊎_elim (λ own. inl own) (λ had. inr (first.1 had)) is)),
      )
  added Three w =
      let first = same_there old one One maps.primary e.primary primary Three (λ e. omega arith) w in
      let second = same_there one two Two maps.secondary e.secondary secondary Three (λ e. omega arith) w in
      let here = added_here two three Three maps.tertiary e.tertiary tertiary w in (
        (λ has. ⊎_elim (λ own. inl own) (λ had. inr (first.0 (second.0 had))) (here.0 has)),
        λ is. here.1 (⊎_elim (λ own. inl own) (λ had. inr (second.1 (first.1 had))) is),
      )

  pub images_more : (elements : List Element) → HoldsImages maps elements old → HoldsImages maps (elements ++ e ∷ []) three
  images_more elements holds l w = (
    (λ has. ⊎_elim
        (λ own. inl (e, Contains-push elements e, own))
        (λ had. ⊎_elim
        (λ image. let (f, is, sent) = image in inl (f, Contains-append_left elements (e ∷ []) f is, sent))
        (λ pair. inr pair)
        ((holds l w).0 had))
        ((added l w).0 has)),
    λ is_one. (added l w).1 (⊎_elim
        (λ image. let (f, is, sent) = image in ⊎_elim
        (λ before. inr ((holds l w).1 (inl (f, before, sent))))
        (λ last. inl (subst (λ g. IsImageOf (at_level l maps) (weight l g) w) (sym last) sent))
        (Contains-push_cases elements e f is))
        (λ pair. inr ((holds l w).1 (inr pair)))
        is_one),
  )
