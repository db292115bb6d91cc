-- The first code point outside of ranges without a property is a border.
use Rattle.std.proofs.Common.{◌≡◌, ◌⊎◌, ⊎_elim, inl, inr, ℕ, zero, suc, ◌+◌, ◌<◌, ◌≤◌, List, length, take, get_or, Option, Some, None, Contains, sym, subst, ◌∙◌, arith}
use Rattle.std.specs.Char.{IsScalar}
use Rattle.std.specs.List.{AllByRecursion}
use Rattle.std.proofs.Math.Utf8.{scalar_cases, low_scalar}
use Rattle.std.proofs.lemmas.Bool.{cases_lt}
use Rattle.std.proofs.lemmas.Bool.Decides.{nat_tests}
use Rattle.std.proofs.lemmas.List.{take_all}
use Rattle.uca_weights.proofs.Lists.{each_weaker, each_contained, each_push, taken_more}
use Rattle.uca_values.specs.declared.CodePointRange.{CodePointRange}
use Rattle.uca_values.specs.declared.ClassRange.{ClassRange}
use Rattle.uca_values.specs.declared.ImplicitRange.{ImplicitRange}
use Rattle.uca_values.specs.Content.{DataContent, properties_of}
use Rattle.uca_changes.specs.Points.{IsSamePair, IsSamePoint, FindsFirstOutside}
use Rattle.uca_editions.specs.inside.Borders.{HasFirsts, HasDataBorders, HasPairBorders, HasPointBorders, IfOutside, FindsLeast, IsBelow}
use Rattle.uca_editions.proofs.BorderSteps.{HasNoBorder, border_or_none, within_step, class_step, pairs_step}

-- the number before a code point is a code point, unless the surrogates are before it
before_scalar : (c : ℕ) → IsScalar (suc c) → IsScalar c ⊎ (0xE000 ≡ suc c)
before_scalar c scalar =
    ⊎_elim
    (λ low. inl (low_scalar c (omega (arith, low))))
    (λ high. ⊎_elim
    (λ above. inr (omega (arith, high.0, above)))
    (λ inside. let above : 0xE000 ≤ c = inside in let below : c < 0x11_0000 = omega (arith, high.1) in inl (grind (arith, nat_tests)))
    (cases_lt c 0xE000))
    (scalar_cases (suc c) scalar)

-- Where a property stays from each code point to the next, unless that is on a list, it holds below a bound if it does so on
-- the list.
pub holds_below : (P : ℕ → Type 0) (points : List ℕ) → HasFirsts points → ((c : ℕ) → IsScalar (suc c) → Contains points (suc c) ⊎ (P c → P (suc c)))
    → (bound : ℕ) → AllByRecursion (λ c. c < bound → P c) points → (c : ℕ) → IsScalar c → c < bound → P c
holds_below P points firsts step bound tested zero scalar below = each_contained (λ c. c < bound → P c) points 0 tested firsts.zero below
holds_below P points firsts step bound tested (suc c) scalar below =
    ⊎_elim
    (λ there. each_contained (λ d. d < bound → P d) points (suc c) tested there below)
    (λ further. ⊎_elim
    (λ is. further (holds_below P points firsts step bound tested c is (omega arith)))
    (λ gap. each_contained (λ d. d < bound → P d) points (suc c) tested (subst (Contains points) gap firsts.after) below)
    (before_scalar c scalar))
    (step c scalar)

-- so what is found on the list is the first of all
pub first_of_all : (ranges : List CodePointRange) (P : ℕ → Type 0) (points : List ℕ) (found : Option ℕ) → HasFirsts points
    → ((c : ℕ) → IsScalar (suc c) → Contains points (suc c) ⊎ (IfOutside ranges P c → IfOutside ranges P (suc c)))
    → FindsLeast (IfOutside ranges P) points found → FindsFirstOutside ranges P found
first_of_all ranges P points None firsts step all =
    λ point scalar. holds_below (IfOutside ranges P) points firsts step (suc point)
    (each_weaker (IfOutside ranges P) (λ c. c < suc point → IfOutside ranges P c) (λ c has below. has) points all) point scalar (omega arith)
first_of_all ranges P points (Some least) firsts step at =
    record {
      scalar = at.0;
      outside = λ inside. at.1 (λ outside. absurd (outside inside));
      without = λ has. at.1 (λ outside. has);
      earlier = λ other below scalar. holds_below (IfOutside ranges P) points firsts step least at.2 other scalar below;
    }

-- ---- Steps

-- a code point stays outside, or inside
outside_step : (ranges : List CodePointRange) (P : ℕ → Type 0) (c : ℕ) → HasNoBorder (λ r. r.first) (λ r. r.last) (suc c) ranges → (P c → P (suc c))
    → IfOutside ranges P c → IfOutside ranges P (suc c)
outside_step ranges P c none further has outside =
    further (has (λ inside. outside (within_step ranges c none ∙ inside)))

pub pair_steps : (old new : List ImplicitRange) (ranges : List CodePointRange) (points : List ℕ) → HasPairBorders old new ranges points
    → (c : ℕ) → IsScalar (suc c) → Contains points (suc c) ⊎ (IfOutside ranges (IsSamePair old new) c → IfOutside ranges (IsSamePair old new) (suc c))
pair_steps old new ranges points has c scalar =
    ⊎_elim (λ there. inl there)
    (λ no_old. ⊎_elim (λ there. inl there)
    (λ no_new. ⊎_elim (λ there. inl there)
    (λ none. inr (outside_step ranges (IsSamePair old new) c none (pairs_step old new c no_old no_new)))
    (border_or_none (λ (r : CodePointRange). r.first) (λ r. r.last) ranges points (suc c) scalar has.changed))
    (border_or_none (λ (r : ImplicitRange). r.first) (λ r. r.last) new points (suc c) scalar has.new_ranges))
    (border_or_none (λ (r : ImplicitRange). r.first) (λ r. r.last) old points (suc c) scalar has.old_ranges)

-- a data file says of a code point what it says of the one before it
record IsSameAt (content : DataContent) (c : ℕ) : Type 0 where
  class : (properties_of content).class (suc c) ≡ (properties_of content).class c
  core : (properties_of content).is_core (suc c) ≡ (properties_of content).is_core c
  other : (properties_of content).is_other (suc c) ≡ (properties_of content).is_other c

-- a code point is on the list, or a data file says of it what it says of the one before it
data_step : (content : DataContent) (points : List ℕ) → HasDataBorders content points → (c : ℕ) → IsScalar (suc c)
    → Contains points (suc c) ⊎ IsSameAt content c
data_step content points has c scalar =
    ⊎_elim (λ there. inl there)
    (λ no_class. ⊎_elim (λ there. inl there)
    (λ no_core. ⊎_elim (λ there. inl there)
    (λ no_other. inr (record {
      class = class_step content.classes c no_class;
      core = within_step content.core c no_core;
      other = within_step content.other c no_other;
    }))
    (border_or_none (λ (r : CodePointRange). r.first) (λ r. r.last) content.other points (suc c) scalar has.other))
    (border_or_none (λ (r : CodePointRange). r.first) (λ r. r.last) content.core points (suc c) scalar has.core))
    (border_or_none (λ (r : ClassRange). r.first) (λ r. r.last) content.classes points (suc c) scalar has.classes)

pub point_steps : (old new : DataContent) (ranges : List CodePointRange) (points : List ℕ) → HasPointBorders old new ranges points
    → (c : ℕ) → IsScalar (suc c) → Contains points (suc c)
    ⊎ (IfOutside ranges (IsSamePoint (properties_of old) (properties_of new)) c → IfOutside ranges (IsSamePoint (properties_of old) (properties_of new)) (suc c))
point_steps old new ranges points has c scalar =
    let Same = IsSamePoint (properties_of old) (properties_of new) in
    ⊎_elim (λ there. inl there)
    (λ old_stays. ⊎_elim (λ there. inl there)
    (λ new_stays. ⊎_elim (λ there. inl there)
    (λ none. inr (outside_step ranges Same c none (λ same. record {
      class = old_stays.class ∙ same.class ∙ sym new_stays.class;
      core = old_stays.core ∙ same.core ∙ sym new_stays.core;
      other = old_stays.other ∙ same.other ∙ sym new_stays.other;
    })))
    (border_or_none (λ (r : CodePointRange). r.first) (λ r. r.last) ranges points (suc c) scalar has.changed))
    (data_step new points has.new_data c scalar))
    (data_step old points has.old_data c scalar)

-- ---- The least of a list

-- one more code point that is the least so far without the property
pub least_here : (P : ℕ → Type 0) (points : List ℕ) (at point : ℕ) (found : Option ℕ) → at < length points → point ≡ get_or points at point
    → FindsLeast P (take at points) found → IsBelow point found → IsScalar point → ¬ (P point) → FindsLeast P (take (at + 1) points) (Some point)
least_here P points at point found within there so_far below scalar without =
    subst (λ ps. FindsLeast P ps (Some point)) (sym (taken_more points at point within there))
    (scalar, without, (each_push (λ c. c < point → P c) (take at points) point).1 (earlier found so_far below, λ less. absurd (omega arith)))
  where
    -- those before it have the property below it
    earlier : (f : Option ℕ) → FindsLeast P (take at points) f → IsBelow point f → AllByRecursion (λ c. c < point → P c) (take at points)
    earlier None all less = each_weaker P (λ c. c < point → P c) (λ c has _. has) (take at points) all
    earlier (Some least) is less =
        each_weaker (λ c. c < least → P c) (λ c. c < point → P c) (λ c has low. has (omega (arith, less))) (take at points) is.2

-- one more code point that is not
pub least_before : (P : ℕ → Type 0) (points : List ℕ) (at point : ℕ) (found : Option ℕ) → at < length points → point ≡ get_or points at point
    → FindsLeast P (take at points) found → (IsBelow point found → P point) → FindsLeast P (take (at + 1) points) found
least_before P points at point None within there so_far has =
    subst (AllByRecursion P) (sym (taken_more points at point within there)) ((each_push P (take at points) point).1 (so_far, has tt))
least_before P points at point (Some least) within there so_far has = (
  so_far.0,
  so_far.1,
  subst (AllByRecursion (λ c. c < least → P c)) (sym (taken_more points at point within there))
      ((each_push (λ c. c < least → P c) (take at points) point).1 (so_far.2, has)),
)

-- the least of all
pub least_whole : (P : ℕ → Type 0) (points : List ℕ) (at : ℕ) (found : Option ℕ) → length points ≤ at → FindsLeast P (take at points) found → FindsLeast P points found
least_whole P points at found over is = subst (λ ps. FindsLeast P ps found) (take_all at points over) is
