-- Where a range fits between ranges in rising order, and what the ranges say once it is added.
use Rattle.std.proofs.Common.{◌≡◌, ◌≢◌, ℕ, ◌+◌, ◌<◌, ◌≤◌, ◌⊎◌, inl, inr, Bool, true, false, max, ◌||◌, cond, not, List, [], ◌∷◌, ◌++◌, length, get_or, take, drop, refl, sym, ap, ◌∙◌, subst, arith, length-take-le, length-drop}
use mathlib.Core.Path.{Path, fun_ext}
use Rattle.std.specs.List.{AllByRecursion, insert}
use Rattle.std.proofs.lemmas.List.{get_or-take, get_or-drop, get_or_default, take-append-drop}
use Rattle.std.proofs.lemmas.List.Edits.{length-insert}
use Rattle.std.proofs.lemmas.List.Recursion.{found_at, found_nowhere, or_at, or_from_places}
use Rattle.std.proofs.lemmas.Bool.{cases_lt}
use Rattle.std.proofs.Math.Nat.{eq-or-lt_of_le}
use Rattle.std.proofs.lemmas.List.Elements.{recursion_from_All}
use Rattle.uca_weights.proofs.Lists.{each_around}
use Rattle.uca_weights.proofs.Tests.{cond_apart}
use Rattle.uca_values.specs.declared.ClassRange.{ClassRange}
use Rattle.uca_values.specs.declared.CodePointRange.{CodePointRange}
use Rattle.uca_values.specs.declared.characters.RangeFault.{RangeFault}
use Rattle.uca_values.specs.declared.characters.RangeFault.TheVariants as faults
use Rattle.uca_values.specs.Ranges.{is_between, is_within, class_in, RiseBy, AreRising, AreRisingClasses}
use Rattle.uca_values.specs.inside.Gaps.{HasRangeIn, IsGap, IsPut}
use Rattle.uca_values.specs.Content.{IsClass, IsData, DataContent, Properties, HasClassBetween, properties_of}
use Rattle.uca_values.specs.Adding.{AddsClass, AddsCore, AddsOther, RefusesCore, RefusesOther, RefusesRange}
use Rattle.uca_values.proofs.Rising.{all_at, sound_at, apart_at, IsPlace, between_true, between_false, between_from}

-- the position of a is a gap if the range there, if any, begins above b
pub gap_at_place : {X : Type 0} (first last : X → ℕ) (xs : List X) → RiseBy first last xs → (a b at : ℕ) (d : X) → IsPlace last a xs at → (at < length xs → b < first (get_or xs at d)) → IsGap first last a b xs at
gap_at_place {X = X} first last xs h a b at d place above = (place.0, after)
  where
    begins : (e : X) → at < length xs → b < first (get_or xs at e)
    begins e l = let P : X → Type 0 = λ x. b < first x in subst P (get_or_default xs at d e l) (above l)

    after : (k : ℕ) (e : X) → at ≤ k → k < length xs → b < first (get_or xs k e)
    after k e from l = elim (eq-or-lt_of_le from) [
      | inl same ↦ let P : ℕ → Type 0 = λ i. i < length xs → b < first (get_or xs i e) in subst P same (begins e) l
      | inr less ↦ omega (arith, apart_at first last xs h at k e less l, sound_at first last xs h at e (omega arith), begins e (omega arith))
    ]

-- ---- A list with one more element

rise_put : {X : Type 0} (first last : X → ℕ) (front : List X) (x : X) (back : List X) → first x ≤ last x → AllByRecursion (λ s. last s < first x) front → AllByRecursion (λ s. last x < first s) back → RiseBy first last (front ++ back) → RiseBy first last (front ++ x ∷ back)
rise_put first last [] x back sound below above h = (sound, above, h)
rise_put first last (y ∷ front) x back sound below above h =
    (h.0, (each_around (λ s. last y < first s) front x back).1 (below.0, h.1), rise_put first last front x back sound below.1 above h.2)

below_gap : {X : Type 0} (first last : X → ℕ) (xs : List X) (a b at : ℕ) → at ≤ length xs → IsGap first last a b xs at → AllByRecursion (λ s. last s < a) (take at xs)
below_gap {X = X} first last xs a b at bound gap = recursion_from_All (λ s. last s < a) (take at xs) each
  where
    each : (k : ℕ) (d : X) → k < length (take at xs) → last (get_or (take at xs) k d) < a
    each k d l =
        let m : k < at = omega (arith, length-take-le at xs bound) in
        rw get_or-take (gap.0 k d (omega arith) m)

above_gap : {X : Type 0} (first last : X → ℕ) (xs : List X) (a b at : ℕ) → IsGap first last a b xs at → AllByRecursion (λ s. b < first s) (drop at xs)
above_gap {X = X} first last xs a b at gap = recursion_from_All (λ s. b < first s) (drop at xs) each
  where
    each : (k : ℕ) (d : X) → k < length (drop at xs) → b < first (get_or (drop at xs) k d)
    each k d l = rw get_or-drop (gap.1 (at + k) d (omega arith) (omega (arith, length-drop at xs)))

pub rise_insert : {X : Type 0} (first last : X → ℕ) (xs : List X) (x : X) (at : ℕ) → at ≤ length xs → RiseBy first last xs → first x ≤ last x → IsGap first last (first x) (last x) xs at → RiseBy first last (insert xs at x)
rise_insert first last xs x at bound h sound gap =
    rise_put first last (take at xs) x (drop at xs) sound (below_gap first last xs _ (last x) at bound gap) (above_gap first last xs (first x) _ at gap)
    (let P = RiseBy first last in subst P (sym (take-append-drop at xs)) h)

pub all_insert : {X : Type 0} (P : X → Type 0) (xs : List X) (x : X) (at : ℕ) → P x → AllByRecursion P xs → AllByRecursion P (insert xs at x)
all_insert P xs x at here h = (each_around P (take at xs) x (drop at xs)).1 (here, subst (AllByRecursion P) (sym (take-append-drop at xs)) h)

-- ---- What the ranges say of a code point, with one more range

class_put : (front : List ClassRange) (r : ClassRange) (back : List ClassRange) → AllByRecursion (λ s. s.last < r.first) front → (point : ℕ) → class_in (front ++ r ∷ back) point ≡ cond (is_between r.first r.last point) r.class (class_in (front ++ back) point)
class_put [] r back below point = refl
class_put (s ∷ front) r back below point =
    cond_apart (is_between s.first s.last point) (is_between r.first r.last point) s.class r.class (class_in (front ++ back) point) (class_in (front ++ r ∷ back) point)
    (λ e f. omega (arith, (between_true s.first s.last point e).1, (between_true r.first r.last point f).0, below.0))
    (class_put front r back below.1 point)

pub class_insert : (xs : List ClassRange) (r : ClassRange) (at : ℕ) → at ≤ length xs → IsGap (λ s. s.first) (λ s. s.last) r.first r.last xs at → (point : ℕ) → class_in (insert xs at r) point ≡ cond (is_between r.first r.last point) r.class (class_in xs point)
class_insert xs r at bound gap point =
    class_put (take at xs) r (drop at xs) (below_gap (λ (s : ClassRange). s.first) (λ s. s.last) xs _ r.last at bound gap) point
    ∙ ap (λ rs. cond (is_between r.first r.last point) r.class (class_in rs point)) (take-append-drop at xs)

within_step : (here there front all : Bool) → all ≡ (there || front) → (here || all) ≡ (there || (here || front))
within_step true true front all e = refl
within_step true false front all e = refl
within_step false there front all e = e

pub within_put : (front : List CodePointRange) (r : CodePointRange) (back : List CodePointRange) (point : ℕ) → is_within (front ++ r ∷ back) point ≡ (is_between r.first r.last point || is_within (front ++ back) point)
within_put [] r back point = refl
within_put (s ∷ front) r back point = within_step (is_between s.first s.last point) (is_between r.first r.last point) _ _ (within_put front r back point)

pub within_insert : (xs : List CodePointRange) (r : CodePointRange) (at : ℕ) (point : ℕ) → is_within (insert xs at r) point ≡ (is_between r.first r.last point || is_within xs point)
within_insert xs r at point =
    within_put (take at xs) r (drop at xs) point
    ∙ ap (λ rs. is_between r.first r.last point || is_within rs point) (take-append-drop at xs)

-- ---- A gap, or a code point in common

between_cases : (first last a b point : ℕ) → (last < a) ⊎ (b < first) → a ≤ point → point ≤ b → is_between first last point ≡ false
between_cases first last a b point (inl below) low high = between_false first last point (inr (omega arith))
between_cases first last a b point (inr above) low high = between_false first last point (inl (omega arith))

gap_sides : {X : Type 0} (first last : X → ℕ) (xs : List X) (a b at : ℕ) → IsGap first last a b xs at → (k : ℕ) (d : X) → k < length xs → (last (get_or xs k d) < a) ⊎ (b < first (get_or xs k d))
gap_sides first last xs a b at gap k d l = elim (cases_lt k at) [ inl below ↦ inl (gap.0 k d (omega arith) below) | inr above ↦ inr (gap.1 k d above l) ]

pub no_class_in_gap : (xs : List ClassRange) (a b at : ℕ) → IsGap (λ s. s.first) (λ s. s.last) a b xs at → (point : ℕ) → a ≤ point → point ≤ b → class_in xs point ≡ 0
no_class_in_gap xs a b at gap point low high =
    found_nowhere (λ rs. class_in rs point) (λ r. is_between r.first r.last point) (λ r. r.class) 0 refl (λ _ _. refl) xs (record { first = 0; last = 0; class = 0 })
    (λ k l. between_cases _ _ a b point (gap_sides (λ (s : ClassRange). s.first) (λ s. s.last) xs a b at gap k _ l) low high)

pub none_in_gap : (xs : List CodePointRange) (a b at : ℕ) → IsGap (λ s. s.first) (λ s. s.last) a b xs at → (point : ℕ) → a ≤ point → point ≤ b → is_within xs point ≡ false
none_in_gap xs a b at gap point low high =
    or_from_places (λ rs. is_within rs point) (λ r. is_between r.first r.last point) refl (λ _ _. refl) xs (record { first = 0; last = 0 })
    (λ k l. between_cases _ _ a b point (gap_sides (λ (s : CodePointRange). s.first) (λ s. s.last) xs a b at gap k _ l) low high)

-- the range at the position begins at b or below, so it has a code point in common with the range from a to b
common : {X : Type 0} (first last : X → ℕ) (xs : List X) → RiseBy first last xs → (a b at : ℕ) (d : X) → IsPlace last a xs at → at < length xs → a ≤ b → first (get_or xs at d) ≤ b → let point = max a (first (get_or xs at d)) in (a ≤ point) × (point ≤ b) × (is_between (first (get_or xs at d)) (last (get_or xs at d)) point ≡ true)
common first last xs h a b at d place l low meets =
    let begins = first (get_or xs at d) in
    let sound = sound_at first last xs h at d l in
    let reaches = place.1 at d (omega arith) l in
    (omega arith, omega arith, between_from begins (last (get_or xs at d)) (max a begins) (omega arith) (omega arith))

pub class_in_common : (xs : List ClassRange) → AreRisingClasses xs → AllByRecursion (λ r. IsClass r.class) xs → (a b at : ℕ) (d : ClassRange) → IsPlace (λ r. r.last) a xs at → at < length xs → a ≤ b → (get_or xs at d).first ≤ b → (point : ℕ) × (a ≤ point) × (point ≤ b) × (class_in xs point ≢ 0)
class_in_common xs h numbers a b at d place l low meets =
    let c = common (λ (r : ClassRange). r.first) (λ r. r.last) xs h a b at d place l low meets in
    let point = max a (get_or xs at d).first in
    let is = found_at (λ rs. class_in rs point) (λ r. is_between r.first r.last point) (λ r. r.class) 0 refl (λ _ _. refl) xs at d l
    (λ k below. between_false (get_or xs k d).first (get_or xs k d).last point (inr (omega (arith, place.0 k d (omega arith) below, c.0)))) c.2 in
    (point, c.0, c.1, λ none. omega (arith, is, none, (all_at (λ r. IsClass r.class) xs numbers at d l).0))

pub within_common : (xs : List CodePointRange) → AreRising xs → (a b at : ℕ) (d : CodePointRange) → IsPlace (λ r. r.last) a xs at → at < length xs → a ≤ b → (get_or xs at d).first ≤ b → (point : ℕ) × (a ≤ point) × (point ≤ b) × (is_within xs point ≡ true)
within_common xs h a b at d place l low meets =
    let c = common (λ (r : CodePointRange). r.first) (λ r. r.last) xs h a b at d place l low meets in
    let point = max a (get_or xs at d).first in
    (point, c.0, c.1, or_at (λ rs. is_within rs point) (λ r. is_between r.first r.last point) refl (λ _ _. refl) xs at d l c.2)

-- ---- A range is added

pub same_properties : (class other_class : ℕ → ℕ) (core other_core : ℕ → Bool) (other other_other : ℕ → Bool) → class ≡ other_class → core ≡ other_core → other ≡ other_other → Path Properties (record { class = class; is_core = core; is_other = other }) (record { class = other_class; is_core = other_core; is_other = other_other })
same_properties class c' core d' other e' p q r = λ i. record { class = p i; is_core = q i; is_other = r i }

pub adds_class : (old : DataContent) (r : ClassRange) (at : ℕ) → r.first ≤ r.last → at ≤ length old.classes → IsGap (λ s. s.first) (λ s. s.last) r.first r.last old.classes at → length old.classes < 4096 → AddsClass old r (record old { classes = insert old.classes at r })
adds_class old r at sound bound gap room = record {
  room = room;
  rising = sound;
  free = λ has. has.3 (no_class_in_gap old.classes r.first r.last at gap has.0 has.1 has.2);
  gives = same_properties _ _ _ _ _ _ (fun_ext (class_insert old.classes r at bound gap)) refl refl;
  classes = length-insert old.classes at r bound;
  core = refl;
  other = refl;
}

no_han : (core other : List CodePointRange) (point : ℕ) → is_within core point ≡ false → is_within other point ≡ false → (is_within core point ≡ true) ⊎ (is_within other point ≡ true) → ⊥
no_han core other point no_core no_other (inl e) = cc
no_han core other point no_core no_other (inr e) = cc

pub adds_core : (old : DataContent) (r : CodePointRange) (at beside : ℕ) → r.first ≤ r.last → at ≤ length old.core → IsGap (λ s. s.first) (λ s. s.last) r.first r.last old.core at → IsGap (λ s. s.first) (λ s. s.last) r.first r.last old.other beside → length old.core < 4096 → AddsCore old r (record old { core = insert old.core at r })
adds_core old r at beside sound bound gap also room = record {
  room = room;
  rising = sound;
  free = λ has. no_han old.core old.other has.0 (none_in_gap old.core r.first r.last at gap has.0 has.1 has.2) (none_in_gap old.other r.first r.last beside also has.0 has.1 has.2) has.3;
  gives = same_properties _ _ _ _ _ _ refl (fun_ext (within_insert old.core r at)) refl;
  classes = refl;
  core = length-insert old.core at r bound;
  other = refl;
}

pub adds_other : (old : DataContent) (r : CodePointRange) (at beside : ℕ) → r.first ≤ r.last → at ≤ length old.other → IsGap (λ s. s.first) (λ s. s.last) r.first r.last old.other at → IsGap (λ s. s.first) (λ s. s.last) r.first r.last old.core beside → length old.other < 4096 → AddsOther old r (record old { other = insert old.other at r })
adds_other old r at beside sound bound gap also room = record {
  room = room;
  rising = sound;
  free = λ has. no_han old.core old.other has.0 (none_in_gap old.core r.first r.last beside also has.0 has.1 has.2) (none_in_gap old.other r.first r.last at gap has.0 has.1 has.2) has.3;
  gives = same_properties _ _ _ _ _ _ refl refl (fun_ext (within_insert old.other r at));
  classes = refl;
  core = refl;
  other = length-insert old.other at r bound;
}

-- ---- Where the lists lie in vectors

-- what an insertion leaves, if it was not rejected
pub taken : {X : Type 0} (made failed : Bool) (ys after before : List X) → ys ≡ cond made after before → made ≡ not failed → failed ≡ false → ys ≡ after
taken made failed ys after before is negation false_ = is ∙ ap (λ b. cond b after before) (negation ∙ ap not false_)

-- the position lies within the ranges and is a gap for those from a to b
abbrev pub Fits : {X : Type 0} → (X → ℕ) → (X → ℕ) → ℕ → ℕ → List X → ℕ → Type 0
Fits first last a b xs at = (at ≤ length xs) × IsGap first last a b xs at

pub keeps_class : (xs slice ys : List ClassRange) (core other : List CodePointRange) (r : ClassRange) (at : ℕ) → slice ≡ xs → ys ≡ insert xs at r → IsData (record { classes = xs; core = core; other = other }) → IsClass r.class → r.first ≤ r.last → Fits (λ s. s.first) (λ s. s.last) r.first r.last slice at → length xs < 4096 → IsData (record { classes = ys; core = core; other = other })
keeps_class xs slice ys core other r at lent put is number sound fits room =
    let first : ClassRange → ℕ = λ s. s.first in let last : ClassRange → ℕ = λ s. s.last in
    let here = let P : List ClassRange → Type 0 = λ zs. Fits first last r.first r.last zs at in subst P lent fits in
    let P : List ClassRange → Type 0 = λ zs. IsData (record { classes = zs; core = core; other = other }) in
    subst P (sym put) (record {
      classes = rise_insert first last xs r at here.0 is.classes sound here.1;
      numbers = all_insert (λ s. IsClass s.class) xs r at number is.numbers;
      core = is.core;
      other = is.other;
      few_classes = omega (arith, length-insert xs at r here.0);
      few_core = is.few_core;
      few_other = is.few_other;
    })

pub gains_class : (old : DataContent) (xs slice ys : List ClassRange) (core other : List CodePointRange) (r : ClassRange) (at : ℕ) → record { classes = xs; core = core; other = other } ≡ old → slice ≡ xs → ys ≡ insert xs at r → r.first ≤ r.last → Fits (λ s. s.first) (λ s. s.last) r.first r.last slice at → length xs < 4096 → AddsClass old r (record { classes = ys; core = core; other = other })
gains_class old xs slice ys core other r at view lent put sound fits room =
    let here = let P : List ClassRange → Type 0 = λ zs. Fits (λ s. s.first) (λ s. s.last) r.first r.last zs at in subst P lent fits in
    let was : DataContent = record { classes = xs; core = core; other = other } in
    let P : List ClassRange → Type 0 = λ zs. AddsClass was r (record { classes = zs; core = core; other = other }) in
    let Q : DataContent → Type 0 = λ content. AddsClass content r (record { classes = ys; core = core; other = other }) in
    subst Q view (subst P (sym put) (adds_class was r at sound here.0 here.1 room))

-- the ranges that say what is Han: those that grow, and those beside them
fits_lent : (xs slice : List CodePointRange) (r : CodePointRange) (at : ℕ) → slice ≡ xs → Fits (λ s. s.first) (λ s. s.last) r.first r.last slice at → Fits (λ s. s.first) (λ s. s.last) r.first r.last xs at
fits_lent xs slice r at lent fits = let P : List CodePointRange → Type 0 = λ zs. Fits (λ s. s.first) (λ s. s.last) r.first r.last zs at in subst P lent fits

pub keeps_rising : (xs slice ys : List CodePointRange) (r : CodePointRange) (at : ℕ) → slice ≡ xs → ys ≡ insert xs at r → AreRising xs → r.first ≤ r.last → Fits (λ s. s.first) (λ s. s.last) r.first r.last slice at → AreRising ys
keeps_rising xs slice ys r at lent put rising sound fits =
    let here = fits_lent xs slice r at lent fits in
    subst AreRising (sym put) (rise_insert (λ (s : CodePointRange). s.first) (λ s. s.last) xs r at here.0 rising sound here.1)

pub few_put : (xs slice ys : List CodePointRange) (r : CodePointRange) (at : ℕ) → slice ≡ xs → ys ≡ insert xs at r → Fits (λ s. s.first) (λ s. s.last) r.first r.last slice at → length xs < 4096 → length ys ≤ 4096
few_put xs slice ys r at lent put fits room =
    let here = fits_lent xs slice r at lent fits in
    omega (arith, ap length put, length-insert xs at r here.0)

pub gains_core : (old : DataContent) (classes : List ClassRange) (xs slice ys other other_slice : List CodePointRange) (r : CodePointRange) (at beside : ℕ) → record { classes = classes; core = xs; other = other } ≡ old → slice ≡ xs → other_slice ≡ other → ys ≡ insert xs at r → r.first ≤ r.last → Fits (λ s. s.first) (λ s. s.last) r.first r.last slice at → Fits (λ s. s.first) (λ s. s.last) r.first r.last other_slice beside → length xs < 4096 → AddsCore old r (record { classes = classes; core = ys; other = other })
gains_core old classes xs slice ys other other_slice r at beside view lent lent_other put sound fits also room =
    let here = fits_lent xs slice r at lent fits in
    let there = fits_lent other other_slice r beside lent_other also in
    let was : DataContent = record { classes = classes; core = xs; other = other } in
    let P : List CodePointRange → Type 0 = λ zs. AddsCore was r (record { classes = classes; core = zs; other = other }) in
    let Q : DataContent → Type 0 = λ content. AddsCore content r (record { classes = classes; core = ys; other = other }) in
    subst Q view (subst P (sym put) (adds_core was r at beside sound here.0 here.1 there.1 room))

pub gains_other : (old : DataContent) (classes : List ClassRange) (core core_slice xs slice ys : List CodePointRange) (r : CodePointRange) (at beside : ℕ) → record { classes = classes; core = core; other = xs } ≡ old → slice ≡ xs → core_slice ≡ core → ys ≡ insert xs at r → r.first ≤ r.last → Fits (λ s. s.first) (λ s. s.last) r.first r.last slice at → Fits (λ s. s.first) (λ s. s.last) r.first r.last core_slice beside → length xs < 4096 → AddsOther old r (record { classes = classes; core = core; other = ys })
gains_other old classes core core_slice xs slice ys r at beside view lent lent_core put sound fits also room =
    let here = fits_lent xs slice r at lent fits in
    let there = fits_lent core core_slice r beside lent_core also in
    let was : DataContent = record { classes = classes; core = core; other = xs } in
    let P : List CodePointRange → Type 0 = λ zs. AddsOther was r (record { classes = classes; core = core; other = zs }) in
    let Q : DataContent → Type 0 = λ content. AddsOther content r (record { classes = classes; core = core; other = ys }) in
    subst Q view (subst P (sym put) (adds_other was r at beside sound here.0 here.1 there.1 room))

-- where there is no room, a range in a gap has no code point in common with the others
pub full_class : (old : DataContent) (xs slice : List ClassRange) (core other : List CodePointRange) (r : ClassRange) (at : ℕ) → record { classes = xs; core = core; other = other } ≡ old → slice ≡ xs → Fits (λ s. s.first) (λ s. s.last) r.first r.last slice at → 4096 ≤ length xs → (HasClassBetween (properties_of old) r.first r.last → ⊥) × (4096 ≤ length old.classes)
full_class old xs slice core other r at view lent fits full =
    let here = let P : List ClassRange → Type 0 = λ zs. Fits (λ s. s.first) (λ s. s.last) r.first r.last zs at in subst P lent fits in
    let Q : DataContent → Type 0 = λ content. (HasClassBetween (properties_of content) r.first r.last → ⊥) × (4096 ≤ length content.classes) in
    subst Q view (λ has. has.3 (no_class_in_gap xs r.first r.last at here.1 has.0 has.1 has.2), full)

-- a range in two gaps has no code point in common with the others
pub no_range : (xs beside : List CodePointRange) (r : CodePointRange) (at place : ℕ) → Fits (λ s. s.first) (λ s. s.last) r.first r.last xs at → Fits (λ s. s.first) (λ s. s.last) r.first r.last beside place → HasRangeIn xs beside r.first r.last → ⊥
no_range xs beside r at place fits also has =
    no_han xs beside has.0 (none_in_gap xs r.first r.last at fits.1 has.0 has.1 has.2) (none_in_gap beside r.first r.last place also.1 has.0 has.1 has.2) has.3

-- the two lists may change their places
in_either : (xs beside : List CodePointRange) (first last : ℕ) → HasRangeIn xs beside first last → HasRangeIn beside xs first last
in_either xs beside first last has = (has.0, has.1, has.2, elim has.3 [ inl e ↦ inr e | inr e ↦ inl e ])

pub refused_either : (xs beside : List CodePointRange) (count first last : ℕ) (fault : RangeFault) → RefusesRange (HasRangeIn xs beside) count first last fault → RefusesRange (HasRangeIn beside xs) count first last fault
refused_either xs beside count first last faults.Empty h = h
refused_either xs beside count first last faults.Overlap h = (h.0, in_either xs beside first last h.1)
refused_either xs beside count first last faults.Limit h = (h.0, (λ has. h.1 (in_either beside xs first last has)), h.2)
refused_either xs beside count first last faults.Memory h = h

-- a range that was put is added to those of its kind
pub put_core : (old : DataContent) (classes : List ClassRange) (xs slice other ys : List CodePointRange) (r : CodePointRange) → record { classes = classes; core = xs; other = other } ≡ old → slice ≡ other → IsPut xs slice r ys → AddsCore old r (record { classes = classes; core = ys; other = other })
put_core old classes xs slice other ys r view lent put =
    gains_core old classes xs xs ys other slice r put.at put.place view refl lent put.is put.rising (put.within, put.gap) (put.within_beside, put.gap_beside) put.room

pub put_other : (old : DataContent) (classes : List ClassRange) (core slice xs ys : List CodePointRange) (r : CodePointRange) → record { classes = classes; core = core; other = xs } ≡ old → slice ≡ core → IsPut xs slice r ys → AddsOther old r (record { classes = classes; core = core; other = ys })
put_other old classes core slice xs ys r view lent put =
    gains_other old classes core slice xs xs ys r put.at put.place view refl lent put.is put.rising (put.within, put.gap) (put.within_beside, put.gap_beside) put.room

-- a range that was rejected leaves all as it was
pub left_core : (old : DataContent) (classes : List ClassRange) (xs slice other ys : List CodePointRange) (r : CodePointRange) (fault : RangeFault) → record { classes = classes; core = xs; other = other } ≡ old → slice ≡ other
    → (ys ≡ xs) × RefusesRange (HasRangeIn xs slice) (length xs) r.first r.last fault → (record { classes = classes; core = ys; other = other } ≡ old) × RefusesCore old r fault
left_core old classes xs slice other ys r fault view lent left =
    let P : List CodePointRange → Type 0 = λ zs. RefusesRange (HasRangeIn xs zs) (length xs) r.first r.last fault in
    let Q : DataContent → Type 0 = λ content. RefusesCore content r fault in
    let content : List CodePointRange → DataContent = λ zs. record { classes = classes; core = zs; other = other } in
    (ap content left.0 ∙ view, subst Q view (subst P lent left.1))

pub left_other : (old : DataContent) (classes : List ClassRange) (core slice xs ys : List CodePointRange) (r : CodePointRange) (fault : RangeFault) → record { classes = classes; core = core; other = xs } ≡ old → slice ≡ core
    → (ys ≡ xs) × RefusesRange (HasRangeIn xs slice) (length xs) r.first r.last fault → (record { classes = classes; core = core; other = ys } ≡ old) × RefusesOther old r fault
left_other old classes core slice xs ys r fault view lent left =
    let P : List CodePointRange → Type 0 = λ zs. RefusesRange (HasRangeIn xs zs) (length xs) r.first r.last fault in
    let Q : DataContent → Type 0 = λ content. RefusesOther content r fault in
    let content : List CodePointRange → DataContent = λ zs. record { classes = classes; core = core; other = zs } in
    (ap content left.0 ∙ view, subst Q view (refused_either xs core (length xs) r.first r.last fault (subst P lent left.1)))
