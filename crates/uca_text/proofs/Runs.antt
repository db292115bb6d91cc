-- Counting the non-starters in a row finds the first long run of a text, or that there is none.
use Rattle.std.proofs.Common.{◌≡◌, inl, inr, ℕ, ◌+◌, ◌-◌, ◌<◌, ◌≤◌, List, [], ◌∷◌, ◌++◌, length, map, take, get_or, refl, sym, ◌∙◌, ap, subst, arith, length-append}
use Rattle.std.proofs.lemmas.Bool.{cases_lt}
use Rattle.std.proofs.lemmas.List.{get_or-map, get_or_at, get_or_append_left, get_or-append_right, take_more, take_all}
use Rattle.std.specs.List.{AllByRecursion}
use Rattle.std.specs.Char.{IsScalar}
use Rattle.std.proofs.lemmas.Grind.{common_steps}
use Rattle.uca_weights.proofs.Lists.{each_push}
use Rattle.uca_text.specs.Limits.{IsLongRun, HasNoLongRun, IsFirstLongRun}

-- of the classes before the position `here`, exactly the last `run` are those of non-starters; no long run is among
-- them
pub record IsCounted (classes : List ℕ) (here run : ℕ) : Type 0 where
  pub few : run ≤ 64
  pub within : run ≤ here
  pub non_starters : (k : ℕ) → k < here → here ≤ k + run → 0 < get_or classes k 0
  pub starter : (k : ℕ) → k + run + 1 ≡ here → get_or classes k 0 ≡ 0
  pub none : (place : ℕ) → place + 65 ≤ here → IsLongRun classes place → ⊥

pub nothing_counted : (classes : List ℕ) → IsCounted classes 0 0
nothing_counted classes = record {
  few = omega arith;
  within = omega arith;
  non_starters = λ k below above. absurd (omega arith);
  starter = λ k e. absurd (omega arith);
  none = λ place within run. absurd (omega arith);
}

-- one class more: only the long run that ends with it can be new
none_more : (classes : List ℕ) (here : ℕ) → ((place : ℕ) → place + 65 ≤ here → IsLongRun classes place → ⊥) →
    ((place : ℕ) → place + 64 ≡ here → IsLongRun classes place → ⊥) → (place : ℕ) → place + 65 ≤ here + 1 → IsLongRun classes place → ⊥
none_more classes here none last place within run =
    elim (cases_lt (place + 64) here) [ inl below ↦ none place (omega arith) run | inr above ↦ last place (omega arith) run ]

-- a starter ends the run
pub after_starter : (classes : List ℕ) (here run : ℕ) → IsCounted classes here run → get_or classes here 0 ≡ 0 → IsCounted classes (here + 1) 0
after_starter classes here run counted zero = record {
  few = omega arith;
  within = omega arith;
  non_starters = λ k below above. absurd (omega arith);
  starter = λ k e. let same : k ≡ here = omega arith in rw same zero;
  none = none_more classes here counted.none (λ place same long.
      let non_starter : 0 < get_or classes (place + 64) 0 = long.non_starters 64 (omega arith) in
      let end : get_or classes (place + 64) 0 ≡ 0 = rw same zero in
      omega arith);
}

-- a non-starter makes it longer
pub after_non_starter : (classes : List ℕ) (here run : ℕ) → IsCounted classes here run → 0 < get_or classes here 0 → run < 64 →
    IsCounted classes (here + 1) (run + 1)
after_non_starter classes here run counted non_starter few = record {
  few = omega arith;
  within = omega (arith, counted.within);
  non_starters = λ k below above. elim (cases_lt k here) [
    | inl before ↦ counted.non_starters k before (omega arith)
    | inr after ↦ let same : k ≡ here = omega arith in rw same non_starter
  ];
  starter = λ k e. counted.starter k (omega arith);
  none = none_more classes here counted.none (λ place same long.
      let start : get_or classes (place + (63 - run)) 0 ≡ 0 = counted.starter (place + (63 - run)) (omega arith) in
      let inner : 0 < get_or classes (place + (63 - run)) 0 = long.non_starters (63 - run) (omega arith) in
      omega arith);
}

-- the 65th non-starter in a row
pub first_long_run : (classes : List ℕ) (here run : ℕ) → IsCounted classes here run → 0 < get_or classes here 0 → 64 ≤ run → here < length classes →
    IsFirstLongRun classes (here - 64)
first_long_run classes here run counted non_starter full within = record {
  run = record {
    within = omega (arith, counted.within, counted.few);
    non_starters = λ k below. elim (cases_lt (here - 64 + k) here) [
      | inl before ↦ counted.non_starters (here - 64 + k) before (omega (arith, counted.within, counted.few))
      | inr after ↦ let same : here - 64 + k ≡ here = omega (arith, counted.within, counted.few) in rw same non_starter
    ];
  };
  first = λ earlier before. counted.none earlier (omega (arith, counted.within, counted.few));
}

-- the end of the text
pub no_long_run : (classes : List ℕ) (here run : ℕ) → IsCounted classes here run → length classes ≤ here → HasNoLongRun classes
no_long_run classes here run counted all place long = counted.none place (omega (arith, long.within)) long

-- fewer than 65 classes
pub few_have_no_long_run : (classes : List ℕ) → length classes ≤ 64 → HasNoLongRun classes
few_have_no_long_run classes few place long = omega (arith, long.within, few)

-- two texts without a long run, where the second begins with a starter
pub no_long_run_joined : (a b : List ℕ) → HasNoLongRun a → HasNoLongRun (0 ∷ b) → HasNoLongRun (a ++ 0 ∷ b)
no_long_run_joined a b first second place long =
    elim (cases_lt (length a) place) [
      | inl after ↦ second (place - length a) (record {
        within = omega (arith, long.within, length-append a (0 ∷ b));
        non_starters = λ k below.
            let same : get_or (a ++ 0 ∷ b) (place + k) 0 ≡ get_or (0 ∷ b) (place + k - length a) 0 =
            get_or-append_right a (0 ∷ b) (length a) (place + k) 0 refl (omega arith) in
            let moved : place + k - length a ≡ place - length a + k = omega arith in
            let there : 0 < get_or (0 ∷ b) (place + k - length a) 0 = rw same at (long.non_starters k below) in
            rw (← moved) there;
      })
      | inr upto ↦ elim (cases_lt (length a) (place + 65)) [
        | inl inside ↦
            let same : place + (length a - place) ≡ length a = omega arith in
            let here : 0 < get_or (a ++ 0 ∷ b) (place + (length a - place)) 0 = long.non_starters (length a - place) (omega arith) in
            omega (arith, rw same at here, get_or_at a 0 b 0 (length a) refl)
        | inr before ↦ first place (record {
          within = before;
          non_starters = λ k below.
              let l : place + k < length a = omega arith in
              rw (get_or_append_left a (0 ∷ b) 0 (place + k) l) at (long.non_starters k below);
        })
      ]
    ]

-- the class at a position
pub class_at : (f : ℕ → ℕ) (points : List ℕ) (here point class : ℕ) → here < length points → point ≡ get_or points here point → class ≡ f point →
    get_or (map f points) here 0 ≡ class
class_at f points here point class within is given = get_or-map f points here point 0 within ∙ ap f (sym is) ∙ sym given

-- one class more
pub classes_more : (f : ℕ → ℕ) (points classes more : List ℕ) (here point class : ℕ) → classes ≡ map f (take here points) →
    more ≡ classes ++ class ∷ [] → here < length points → point ≡ get_or points here point → class ≡ f point → more ≡ map f (take (here + 1) points)
classes_more f points classes more here point class before pushed within is given = grind (arith, common_steps)

-- the classes of all code points
pub all_classes : (f : ℕ → ℕ) (points classes : List ℕ) (here : ℕ) → classes ≡ map f (take here points) → length points ≤ here → classes ≡ map f points
all_classes f points classes here before all = grind (arith, common_steps)

-- one scalar more
pub scalars_more : (points : List ℕ) (here point : ℕ) → AllByRecursion IsScalar (take here points) → here < length points →
    point ≡ get_or points here point → IsScalar point → AllByRecursion IsScalar (take (here + 1) points)
scalars_more points here point before within is scalar =
    subst (AllByRecursion IsScalar) (sym (take_more points here point within))
    ((each_push IsScalar (take here points) (get_or points here point)).1 (before, subst IsScalar is scalar))

-- the scalars are all code points
pub all_scalars : (points : List ℕ) (here : ℕ) → AllByRecursion IsScalar (take here points) → length points ≤ here → AllByRecursion IsScalar points
all_scalars points here before all = subst (AllByRecursion IsScalar) (take_all here points all) before
