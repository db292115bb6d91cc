-- The list of the classes of low code points, with the class of one more range.
use Rattle.std.proofs.Common.{◌≡◌, ℕ, ◌<◌, ◌≤◌, inl, inr, cond, List, ◌++◌, length, get_or, replicate, sym, ap, ◌∙◌, subst, arith}
use Rattle.std.specs.List.{insert}
use Rattle.std.proofs.lemmas.Bool.{cases_lt}
use Rattle.std.proofs.lemmas.List.{get_or-replicate, length-replicate, nil_from_length}
use Rattle.uca_values.specs.declared.ClassRange.{ClassRange}
use Rattle.uca_values.specs.Ranges.{is_between, class_in}
use Rattle.uca_values.specs.inside.LowClasses.{AreLowClasses}
use Rattle.uca_values.proofs.Gaps.{Fits, class_insert}
use Rattle.uca_values.proofs.Rising.{between_false, between_from}

-- a code point has the class of the range where the range has it, and else the class that it had
pub written_as_range : (first last point class here before : ℕ) → (first ≤ point → point ≤ last → here ≡ class) → (point < first → here ≡ before) →
    (last < point → here ≡ before) → here ≡ cond (is_between first last point) class before
written_as_range first last point class here before within below above =
    elim (cases_lt point first) [
      | inl low ↦ below low ∙ ap (λ b. cond b class before) (sym (between_false first last point (inl low)))
      | inr from ↦ elim (cases_lt last point) [
        | inl high ↦ above high ∙ ap (λ b. cond b class before) (sym (between_false first last point (inr high)))
        | inr upto ↦ within from upto ∙ ap (λ b. cond b class before) (sym (between_from first last point from upto))
      ]
    ]

-- while no range has a class, each class is 0
pub starters_are_low : (ranges : List ClassRange) (old new : List ℕ) (n : ℕ) → length old ≡ 0 → new ≡ old ++ replicate n 0 → 0 < n →
    AreLowClasses ranges old → AreLowClasses ranges new
starters_are_low ranges old new n empty filled some are =
    let P : List ℕ → Type 0 = AreLowClasses ranges in
    let same : new ≡ replicate n 0 = filled ∙ ap (λ l. l ++ replicate n 0) (nil_from_length old empty) in
    subst P (sym same) (record {
      each = λ point within.
          get_or-replicate n point 0 0 (omega (arith, within, length-replicate {A = ℕ} n 0)) ∙ ap (λ rs. class_in rs point) (sym (are.none empty));
      none = λ _. are.none empty;
    })

-- the list has the classes of the ranges with one more
pub low_classes_put : (xs slice ys : List ClassRange) (r : ClassRange) (at : ℕ) (low new : List ℕ) → slice ≡ xs → ys ≡ insert xs at r →
    Fits (λ s. s.first) (λ s. s.last) r.first r.last slice at → AreLowClasses xs low → 0 < length low → length new ≡ length low →
    ((point : ℕ) → point < length low → get_or new point 0 ≡ cond (is_between r.first r.last point) r.class (get_or low point 0)) → AreLowClasses ys new
low_classes_put xs slice ys r at low new lent put fits are some same written =
    let here = let P : List ClassRange → Type 0 = λ zs. Fits (λ s. s.first) (λ s. s.last) r.first r.last zs at in subst P lent fits in
    let P : List ClassRange → Type 0 = λ zs. AreLowClasses zs new in
    subst P (sym put) (record {
      each = λ point within.
          let l : point < length low = omega arith in
          written point l ∙ ap (λ class. cond (is_between r.first r.last point) r.class class) (are.each point l)
          ∙ sym (class_insert xs r at here.0 here.1 point);
      none = λ empty. absurd (omega arith);
    })
