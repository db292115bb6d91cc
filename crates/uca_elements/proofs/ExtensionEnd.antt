-- The non-starters after a key from the first to the last.
use Rattle.std.proofs.Common.{◌≡◌, ◌≢◌, ℕ, suc, ◌+◌, ◌-◌, ◌<◌, ◌≤◌, List, [], ◌∷◌, ◌++◌, length, get_or, true, false, nat_lt, sym, ap, refl, ◌∙◌}
use Rattle.std.proofs.Common.{⊎_elim, arith}
use Rattle.std.proofs.lemmas.Bool.{cases_lt, cases_eq, both_ways}
use Rattle.std.proofs.lemmas.Bool.Decides.{nat_tests}
use Rattle.uca_text.specs.Texts.{Text, NfdText, code_points, is_starter, classed}
use Rattle.uca_text.specs.Limits.{IsAccepted}
use Rattle.uca_elements.specs.Rows.{Keys}
use Rattle.uca_elements.specs.Reading.{non_starters_at_front, after_non_starters}
use Rattle.uca_elements.specs.Places.{is_gone, left_at, IsPlace}
use Rattle.uca_elements.specs.Matches.{IsExtended}
use Rattle.uca_elements.specs.Parts.{Row}
use Rattle.uca_elements.specs.inside.Extensions.{IsAfter, IsGoing}
use Rattle.uca_elements.specs.declared.places.Place.{Place}
use Rattle.uca_elements.specs.declared.matches.Match.TheVariants.{Key}
use Rattle.uca_elements.proofs.MatchLemmas.{marks_none, after_none}
use Rattle.uca_elements.proofs.PlaceLemmas.{length-with_classes, classed_at, left_kept, left_end, not_true}
use Rattle.uca_elements.proofs.ExtensionSteps.{key_at_end, rest_at_end, between_none, between_whole}

-- ---- The first non-starter

pub after_at_start : (s : NfdText) (place : Place) → IsPlace s place → IsAfter s place place.at place
after_at_start s place here =
    record {
      begun = omega arith;
      within = omega (arith, here.reached, here.within);
      at = refl;
      run = refl;
      non_starters = λ k above below. here.non_starters k above (omega (arith, here.reached));
      kept_beyond = λ k above below. not_true (is_gone place k) (λ gone. let before = here.gone_before k gone in omega arith);
    }

pub going_at_start : {N : Type 0} (stands_for : N → List ℕ → Type 0) (keys : Keys) (s : NfdText) (place : Place) (front : Text) (node : N) →
    stands_for node (code_points front) →
    IsGoing stands_for keys s place front place.at (record { node = node; next = place; highest = 0 })
going_at_start stands_for keys s place front node stands =
    record {
      key = front;
      skipped = [];
      node = stands;
      same_key = refl;
      same_rest = refl;
      skipped_is = sym (between_none s place place.at);
      highest = λ class above. let test : true ≡ nat_lt 0 class = grind (arith, nat_tests) in test;
    }

-- no run of non-starters is longer than 64
pub near_start : (s : NfdText) (place next : Place) (i : ℕ) → IsAccepted s → IsAfter s place i next → i < length s.classes →
    (get_or s.classes i 0 ≡ 0 → ⊥) → i - next.run < 64
near_start s place next i accepted after within mark =
    ⊎_elim (λ near. near)
    (λ far.
    let run = after.run in
    let positive : (k : ℕ) → k < 65 → 0 < get_or s.classes (i - 64 + k) 0 = λ k below.
    ⊎_elim
    (λ last. let there : i - 64 + k ≡ i = omega arith in let not_zero : get_or s.classes i 0 ≢ 0 = mark in
    omega (arith, ap (λ n. get_or s.classes n 0) there))
    (λ other. let not_zero : get_or s.classes (i - 64 + k) 0 ≢ 0 = after.non_starters (i - 64 + k) (omega arith) (omega arith) in omega arith)
    (cases_eq k 64) in
    absurd (accepted.short_runs (i - 64) (record { within = omega arith; non_starters = positive })))
    (cases_lt (i - next.run) 64)

-- ---- The end of the non-starters

module _ (s : NfdText) (place next : Place) (i : ℕ) (accepted : IsAccepted s) (here : IsPlace s place) (after : IsAfter s place i next)
    (ended : i < length s.points → get_or s.classes i 0 ≡ 0) where
  past_run : i < length s.points → place.end ≤ i
  past_run within =
      ⊎_elim (λ before. absurd (here.non_starters i (omega (arith, here.begun, after.begun)) before (ended within))) (λ past. past) (cases_lt i place.end)

  no_marks : (non_starters_at_front (left_at s next i) ≡ []) × (after_non_starters (left_at s next i) ≡ left_at s next i)
  no_marks =
      ⊎_elim
      (λ within.
      let kept : is_gone next i ≡ false = after.kept_beyond i (past_run within) (omega arith) in
      let starter : is_starter (classed_at s i) ≡ true = let zero_class = ended within in grind (arith, nat_tests) in
      let on : left_at s next i ≡ classed_at s i ∷ left_at s next (suc i) = left_kept s next i accepted.same within kept in (
        ap non_starters_at_front on ∙ marks_none (classed_at s i) (left_at s next (suc i)) starter,
        ap after_non_starters on ∙ after_none (classed_at s i) (left_at s next (suc i)) starter ∙ sym on,
      ))
      (λ past. let none = left_end s next i accepted.same past in (ap non_starters_at_front none, ap after_non_starters none ∙ sym none))
      (cases_lt i (length s.points))

  place_at_end : IsPlace s (record next { end = i })
  place_at_end =
      record {
        begun = omega (arith, after.at, after.run, here.begun);
        reached = omega (arith, after.at, after.begun);
        within = after.within;
        non_starters = λ k above below. after.non_starters k (omega (arith, after.run)) below;
        gone_before = λ k gone.
            ⊎_elim (λ before. before)
            (λ past.
            ⊎_elim
            (λ inside. let within : i < length s.points = omega (arith, here.within) in let beyond = past_run within in absurd (omega arith))
            (λ beyond. absurd (both_ways (is_gone next k) (after.kept_beyond k beyond past) gone))
            (cases_lt k place.end))
            (cases_lt k i);
      }

  pub extended_at_end : {N : Type 0} (stands_for : N → List ℕ → Type 0) (keys : Keys) (front : Text) (node : N) (highest : ℕ) →
      IsGoing stands_for keys s place front i (record { node = node; next = next; highest = highest }) →
      IsExtended stands_for keys s front place (record { given = Key node; next = record next { end = i } })
  extended_at_end stands_for keys front node highest going =
      let key = going.same_key ∙ key_at_end keys going.key going.skipped (left_at s next i) no_marks.0 in
      let inside : i ≤ length (classed s) = omega (arith, length-with_classes s.points s.classes accepted.same, after.within) in
      record {
        given = (code_points going.key, ap (λ k. Row (code_points k)) key, going.node);
        left =
            ap (left_at s next) after.at
            ∙ between_whole s next place.at i after.begun inside
            ∙ ap (λ t. t ++ left_at s next i) (sym going.skipped_is)
            ∙ sym (going.same_rest ∙ rest_at_end keys going.key going.skipped (left_at s next i) no_marks.0 no_marks.1);
        is_place = place_at_end;
        at = after.at;
      }
