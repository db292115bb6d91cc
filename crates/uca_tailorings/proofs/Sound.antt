-- What well-formedness says of one element, and why neither weight of a relation is 0.
use Rattle.std.proofs.Common.{◌≡◌, ◌≢◌, ◌⊎◌, inl, inr, ⊎_elim, ℕ, zero, suc, ◌<◌, ◌≤◌, List, Some, refl, sym, subst, arith, nat_eq}
use Rattle.std.specs.List.{AllByRecursion}
use Rattle.std.specs.Char.{IsScalar}
use Rattle.std.proofs.lemmas.Bool.{cond-false, ne_eqb}
use Rattle.uca_weights.specs.declared.Element.{Element}
use Rattle.uca_weights.specs.declared.Level.{Level}
use Rattle.uca_weights.specs.declared.Level.TheVariants.{One, Two, Three}
use Rattle.uca_weights.specs.Kinds.{IsSecondaryElement, IsTertiaryElement, IsContinuation}
use Rattle.uca_weights.specs.Levels.{weight}
use Rattle.uca_values.specs.Content.{Entry}
use Rattle.uca_values.specs.Implicit.{implicit_pair, implicit}
use Rattle.uca_check.specs.WellFormed.{HasGap, MeetsWF1, MeetsWF2, IsWellFormed}
use Rattle.uca_weights.proofs.Lists.{each_weaker}
use Rattle.uca_text.specs.Texts.{NfdText, classed}
use Rattle.uca_text.specs.Limits.{IsNormal}
use Rattle.uca_text.proofs.Texts.{points_of_text}
use Rattle.uca_elements.specs.Rows.{rows_of}
use Rattle.uca_elements.specs.Collations.{elements_of}
use Rattle.uca_elements.proofs.RowsByKey.{at_row}
use Rattle.uca_elements.proofs.ReadingEach.{read_each}
use Rattle.uca_tailorings.specs.Placing.{IsIgnorableTo, reset, reweighted}
use Rattle.uca_tailorings.specs.Tailorings.{Tailoring, IsTailoring, tailored_reading, IsBetween}
use Rattle.uca_values.proofs.ImplicitPairs.{each_pair}
use Rattle.uca_tailorings.proofs.Parts.{each_by_parts, each_of_both}
use borrow.Table.Char.{scalar_below}

-- ---- Sound elements

-- only a continuation has a gap, and the first weight of a secondary or tertiary element is above those of implicit weights
pub record IsSound (e : Element) : Type 0 where
  pub gap : HasGap e → IsContinuation e
  pub secondary : IsSecondaryElement e → 0x20 < e.secondary
  pub tertiary : IsTertiaryElement e → 2 < e.tertiary

-- each element of a row that meets the first two conditions is sound
sound_entry : (rows : List Entry) (row : Entry) → MeetsWF1 row → MeetsWF2 rows row → AllByRecursion IsSound row.elements
sound_entry rows row gaps high =
    let none : AllByRecursion (λ e. HasGap e → IsContinuation e) row.elements =
    each_by_parts (λ e. HasGap e → IsContinuation e) row.elements (λ before e after whole gap. (gaps.gaps before e after whole gap).0) in
    each_of_both (λ e. HasGap e → IsContinuation e) _ IsSound
    (λ e none_here firsts. record { gap = none_here; secondary = λ is. (firsts.0 is).0; tertiary = λ is. (firsts.1 is).0 }) row.elements none high

-- so are those of the row at a key of a well-formed table
pub sound_row : (class : ℕ → ℕ) (rows : List Entry) → IsWellFormed class rows → (key : List ℕ) (row : List Element) → rows_of rows key ≡ Some row →
    AllByRecursion IsSound row
sound_row class rows well key row found =
    let each = each_of_both MeetsWF1 (MeetsWF2 rows) (λ r. AllByRecursion IsSound r.elements) (sound_entry rows) rows well.wf1 well.wf2 in
    at_row (λ r. AllByRecursion IsSound r.elements) rows key row each found

-- implicit weights are sound
sound_pair : (lead low : ℕ) → 0xFB00 ≤ lead → lead ≤ 0xFBFF → low < 0x8000 → AllByRecursion IsSound (implicit_pair lead low)
sound_pair lead low high below small = (
  record {
    gap = λ gap. ⊎_elim (λ first. absurd (omega (arith, first.1))) (λ second. absurd (omega (arith, second.1))) gap;
    secondary = λ is. absurd (omega (arith, is.0));
    tertiary = λ is. absurd (omega (arith, is.0));
  },
  (
    record {
      gap = λ gap. ((λ none. omega (arith, none)), refl, refl);
      secondary = λ is. absurd (is.1 refl);
      tertiary = λ is. absurd (is.2 refl);
    },
    tt,
  ),
)

-- each element that a text has under the tailored table is sound
pub sound_elements : (tailoring : Tailoring) → IsTailoring tailoring → IsWellFormed tailoring.properties.class tailoring.tailored.rows →
    (text : NfdText) → IsNormal text → AllByRecursion IsSound (elements_of (tailored_reading tailoring) text)
sound_elements tailoring is well text normal =
    let of_point = implicit tailoring.tailored.header.ranges tailoring.properties in
    let points = each_weaker IsScalar (λ c. AllByRecursion IsSound (of_point c))
    (λ c scalar. each_pair (AllByRecursion IsSound) sound_pair tailoring.tailored.header.ranges tailoring.properties is.tailored.header.ranges c
    (scalar_below c scalar))
    text.points normal.scalars in
    read_each IsSound of_point (rows_of tailoring.tailored.rows) (classed text)
    (λ key row occurs found. sound_row tailoring.properties.class tailoring.tailored.rows well key row found)
    (subst (AllByRecursion (λ c. AllByRecursion IsSound (of_point c))) (sym (points_of_text text normal)) points)

-- ---- Weights that are not 0

-- a number is 0 or not
pub zero_or_not : (n : ℕ) → (n ≡ 0) ⊎ (n ≢ 0)
zero_or_not zero = inl refl
zero_or_not (suc n) = inr (λ none. omega (arith, none))

-- a weight that is not 0 becomes the default
pub reset_some : (w default : ℕ) → w ≢ 0 → reset w default ≡ default
reset_some w default some = cond-false (nat_eq w 0) 0 default (ne_eqb w 0 some)

-- the weight of an anchor's last element is not 0
pub old_is_some : (level : Level) (e : Element) → IsSound e → ¬ (IsContinuation e) → ¬ (IsIgnorableTo level e) → weight level e ≢ 0
old_is_some One e sound alone not_ignorable none = not_ignorable none
old_is_some Two e sound alone not_ignorable none =
    ⊎_elim (λ no_primary. not_ignorable (no_primary, none)) (λ primary. alone (sound.gap (inl (primary, none)))) (zero_or_not e.primary)
old_is_some Three e sound alone not_ignorable none =
    ⊎_elim
    (λ no_secondary.
    ⊎_elim (λ no_primary. not_ignorable (no_primary, no_secondary, none)) (λ primary. alone (sound.gap (inl (primary, no_secondary)))) (zero_or_not e.primary))
    (λ secondary. alone (sound.gap (inr (secondary, none))))
    (zero_or_not e.secondary)

-- a secondary weight of an element with a primary one
secondary_is_some : (e : Element) → IsSound e → ¬ (IsContinuation e) → e.primary ≢ 0 → e.secondary ≢ 0
secondary_is_some e sound alone primary none = alone (sound.gap (inl (primary, none)))

-- a tertiary weight of an element with a secondary one
tertiary_is_some : (e : Element) → IsSound e → ¬ (IsContinuation e) → e.secondary ≢ 0 → e.tertiary ≢ 0
tertiary_is_some e sound alone secondary none = alone (sound.gap (inr (secondary, none)))

-- The new weight is not 0: a sound element without it would have too low a first weight, or a gap, or no weight at all. In the last case
-- the weight of implicit weights would lie between the old weight and the new one.
pub new_is_some : (level : Level) (e : Element) (w : ℕ) → IsSound e → ¬ (IsContinuation e) → ¬ (IsIgnorableTo level e) → IsSound (reweighted level w e) →
    ((level ≡ Three) → ¬ (IsBetween (weight level e) w 2)) → w ≢ 0
new_is_some One e w sound alone not_ignorable new nearest none =
    let default : reset e.secondary 0x20 ≡ 0x20 = reset_some e.secondary 0x20 (secondary_is_some e sound alone not_ignorable) in
    let above = new.secondary (none, (λ zero_there. omega (arith, default, zero_there))) in
    omega (arith, above, default)
new_is_some Two e w sound alone not_ignorable new nearest none =
    let secondary : e.secondary ≢ 0 = old_is_some Two e sound alone not_ignorable in
    let default : reset e.tertiary 2 ≡ 2 = reset_some e.tertiary 2 (tertiary_is_some e sound alone secondary) in
    ⊎_elim
    (λ no_primary.
    let above = new.tertiary (no_primary, none, (λ zero_there. omega (arith, default, zero_there))) in
    omega (arith, above, default))
    (λ primary.
    let continues = new.gap (inl (primary, none)) in
    omega (arith, continues.2, default))
    (zero_or_not e.primary)
new_is_some Three e w sound alone not_ignorable new nearest none =
    let tertiary : e.tertiary ≢ 0 = old_is_some Three e sound alone not_ignorable in
    ⊎_elim
    (λ no_secondary.
    ⊎_elim
    (λ no_primary.
    let above = sound.tertiary (no_primary, no_secondary, tertiary) in
    nearest refl (inr (omega (arith, none), above)))
    (λ primary. alone (sound.gap (inl (primary, no_secondary))))
    (zero_or_not e.primary))
    (λ secondary. let continues = new.gap (inr (secondary, none)) in secondary continues.1)
    (zero_or_not e.secondary)
