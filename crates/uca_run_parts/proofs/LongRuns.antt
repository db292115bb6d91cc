-- The first long run of non-starters, found by a test.
use Rattle.std.proofs.Common.{◌≡◌, ℕ, zero, suc, ◌+◌, ◌<◌, ◌≤◌, Bool, true, false, List, [], ◌∷◌, length, Option, Some, None, option_map, get_or, refl, ap, sym, subst, arith, ◌∙◌}
use Rattle.std.proofs.lemmas.Bool.{lt-ltb, ltb-true, and_parts, and_from}
use Rattle.uca_text.specs.Limits.{IsLongRun, HasNoLongRun, IsFirstLongRun}
use Rattle.uca_run_parts.specs.Input.{begins_with_marks, first_long_run}

-- as many non-starters as are asked for come at the front
marks_pass : (n : ℕ) (classes : List ℕ) → n ≤ length classes → ((k : ℕ) → k < n → 0 < get_or classes k 0) → begins_with_marks n classes ≡ true
unfolding begins_with_marks
marks_pass zero classes h marks = refl
marks_pass (suc n) [] h marks = absurd (omega arith)
marks_pass (suc n) (class ∷ classes) h marks =
    and_from _ _ (lt-ltb 0 class (marks 0 (omega arith))) (marks_pass n classes (omega arith) (λ k below. marks (suc k) (omega arith)))

-- and where the test passes, they do
marks_fit : (n : ℕ) (classes : List ℕ) → begins_with_marks n classes ≡ true → n ≤ length classes
unfolding begins_with_marks
marks_fit zero classes h = omega arith
marks_fit (suc n) [] h = let never : ⊥ = cc in absurd never
marks_fit (suc n) (class ∷ classes) h =
    let later = marks_fit n classes ((and_parts _ _ h).1) in omega (arith, later)

marks_stand : (n : ℕ) (classes : List ℕ) → begins_with_marks n classes ≡ true → (k : ℕ) → k < n → 0 < get_or classes k 0
unfolding begins_with_marks
marks_stand zero classes h k below = absurd (omega arith)
marks_stand (suc n) [] h k below = let never : ⊥ = cc in absurd never
marks_stand (suc n) (class ∷ classes) h zero below = ltb-true 0 class ((and_parts _ _ h).0)
marks_stand (suc n) (class ∷ classes) h (suc k) below = marks_stand n classes ((and_parts _ _ h).1) k (omega arith)

-- a long run at the front passes the test, and what passes it is one
front_passes : (classes : List ℕ) → IsLongRun classes 0 → begins_with_marks 65 classes ≡ true
front_passes classes run =
    marks_pass 65 classes (omega (arith, run.within)) (λ k below. let here = run.non_starters k below in subst (λ n. 0 < get_or classes n 0) (omega arith) here)

front_stands : (classes : List ℕ) → begins_with_marks 65 classes ≡ true → IsLongRun classes 0
front_stands classes h = record {
  within = let fit = marks_fit 65 classes h in omega (arith, fit);
  non_starters = λ k below. let here = marks_stand 65 classes h k below in subst (λ n. 0 < get_or classes n 0) (omega arith) here;
}

run_later : (class : ℕ) (classes : List ℕ) (place : ℕ) → IsLongRun classes place → IsLongRun (class ∷ classes) (suc place)
run_later class classes place run = record {
  within = let fit = run.within in omega (arith, fit);
  non_starters = λ k below.
      let here : 0 < get_or (class ∷ classes) (suc (place + k)) 0 = run.non_starters k below in
      let same : suc (place + k) ≡ suc place + k = omega arith in
      subst (λ n. 0 < get_or (class ∷ classes) n 0) same here;
}

run_earlier : (class : ℕ) (classes : List ℕ) (place : ℕ) → IsLongRun (class ∷ classes) (suc place) → IsLongRun classes place
run_earlier class classes place run = record {
  within = let fit = run.within in omega (arith, fit);
  non_starters = λ k below.
      let same : suc place + k ≡ suc (place + k) = omega arith in
      let here : 0 < get_or (class ∷ classes) (suc (place + k)) 0 = subst (λ n. 0 < get_or (class ∷ classes) n 0) same (run.non_starters k below) in
      here;
}

-- what the test at the front says of the first long run
run_here : (class : ℕ) (classes : List ℕ) → begins_with_marks 65 (class ∷ classes) ≡ true → first_long_run (class ∷ classes) ≡ Some 0
run_here class classes h = rw h refl

run_after : (class : ℕ) (classes : List ℕ) → begins_with_marks 65 (class ∷ classes) ≡ false → first_long_run (class ∷ classes) ≡ option_map suc (first_long_run classes)
run_after class classes h = rw h refl

not_here : (classes : List ℕ) → (IsLongRun classes 0 → ⊥) → (b : Bool) → begins_with_marks 65 classes ≡ b → b ≡ false
not_here classes none true h = absurd (none (front_stands classes h))
not_here classes none false h = refl

-- the first long run is found
pub first_long_run_is : (classes : List ℕ) (place : ℕ) → IsFirstLongRun classes place → first_long_run classes ≡ Some place
first_long_run_is [] place first = let fit = first.run.within in absurd (omega (arith, fit))
first_long_run_is (class ∷ classes) zero first = run_here class classes (front_passes (class ∷ classes) first.run)
first_long_run_is (class ∷ classes) (suc place) first =
    let later = first_long_run_is classes place (record {
      run = run_earlier class classes place first.run;
      first = λ earlier below run. first.first (suc earlier) (omega arith) (run_later class classes earlier run);
    }) in
    run_after class classes (not_here (class ∷ classes) (first.first 0 (omega arith)) _ refl) ∙ ap (option_map suc) later

-- and none where there is none
pub no_long_run_is : (classes : List ℕ) → HasNoLongRun classes → first_long_run classes ≡ None
no_long_run_is [] none = refl
no_long_run_is (class ∷ classes) none =
    let later = no_long_run_is classes (λ place run. none (suc place) (run_later class classes place run)) in
    run_after class classes (not_here (class ∷ classes) (none 0) _ refl) ∙ ap (option_map suc) later

-- where none is found
none_after : (found : Option ℕ) → option_map suc found ≡ None → found ≡ None
none_after None none = refl
none_after (Some place) none = let never : Some (suc place) ≡ None = none in cc

none_found : (class : ℕ) (classes : List ℕ) (here : Bool) → begins_with_marks 65 (class ∷ classes) ≡ here → first_long_run (class ∷ classes) ≡ None →
    (here ≡ false) × (first_long_run classes ≡ None)
none_found class classes true is none = let place : ℕ = 0 in let never : Some place ≡ None = sym (run_here class classes is) ∙ none in cc
none_found class classes false is none = (refl, none_after (first_long_run classes) (sym (run_after class classes is) ∙ none))

-- there is none
none_at : (classes : List ℕ) → first_long_run classes ≡ None → (place : ℕ) → IsLongRun classes place → ⊥
none_at [] none place run = let fit = run.within in absurd (omega (arith, fit))
none_at (class ∷ classes) none zero run =
    let clash : true ≡ false = sym (front_passes (class ∷ classes) run) ∙ (none_found class classes _ refl none).0 in cc
none_at (class ∷ classes) none (suc place) run =
    none_at classes (none_found class classes _ refl none).1 place (run_earlier class classes place run)

pub none_is_long : (classes : List ℕ) → first_long_run classes ≡ None → HasNoLongRun classes
none_is_long classes none = none_at classes none
