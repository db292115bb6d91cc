-- Marks of code points: one more, with those that there were, and what the marks of ranges say.
use Rattle.std.proofs.Common.{◌≡◌, ℕ, ◌+◌, ◌/◌, ◌<◌, ◌||◌, ◌==◌, Bool, true, false, cond, List, [], ◌∷◌, length, take, get_or, refl, ap, sym, ◌∙◌, subst, true≢false, eq-eqb}
use Rattle.std.specs.List.{AllByRecursion}
use Rattle.uca_weights.proofs.Lists.{each_push, each_weaker, taken_more}
use Rattle.uca_weights.proofs.Tests.{by_cases}
use Rattle.uca_values.specs.declared.CodePointRange.{CodePointRange}
use Rattle.uca_values.specs.Ranges.{is_between, is_within}
use Rattle.uca_table.specs.inside.Keeping.{has_bit}
use Rattle.uca_table.proofs.KeyBits.{has_bit-set, with_point}
use Rattle.uca_editions.specs.inside.Index.{IsMarked, HasMarks}

-- a code point is marked, and so is what was marked
pub marked_here : (words : List ℕ) (code : ℕ) → code / 64 < length words → IsMarked (with_point words code) code
marked_here words code small = has_bit-set words code code small ∙ ap (λ b. cond b true (has_bit words code)) (eq-eqb code code refl)

pub marked_still : (words : List ℕ) (code other : ℕ) → code / 64 < length words → IsMarked words other → IsMarked (with_point words code) other
marked_still words code other small marked = has_bit-set words code other small ∙ either (code == other) (has_bit words other) marked
  where
    either : (b t : Bool) → t ≡ true → cond b true t ≡ true
    either true t h = refl
    either false t h = h

-- one more member of a list is done, and what is true of the others stays true
pub each_more : {X : Type 0} (P : List ℕ → X → Type 0) (xs : List X) (i : ℕ) (x : X) (old new : List ℕ) → i < length xs → x ≡ get_or xs i x
    → ((y : X) → P old y → P new y) → P new x → AllByRecursion (P old) (take i xs) → AllByRecursion (P new) (take (i + 1) xs)
each_more P xs i x old new within there stays here all =
    subst (AllByRecursion (P new)) (sym (taken_more xs i x within there))
    ((each_push (P new) (take i xs) x).1 (each_weaker (P old) (P new) stays (take i xs) all, here))

-- a code point of the ranges is marked
within_marked : (words : List ℕ) (ranges : List CodePointRange) (point : ℕ) → AllByRecursion (HasMarks words) ranges
    → is_within ranges point ≡ true → IsMarked words point
within_marked words [] point all h = absurd (true≢false (sym h))
within_marked words (r ∷ ranges) point all h =
    by_cases (is_between r.first r.last point) (λ here. all.0 point here)
    (λ no. within_marked words ranges point all.1 (subst (λ b. (b || is_within ranges point) ≡ true) no h))

-- one that is not marked is in none
pub outside_unmarked : (words : List ℕ) (ranges : List CodePointRange) (point : ℕ) → AllByRecursion (HasMarks words) ranges
    → has_bit words point ≡ false → is_within ranges point ≡ false
outside_unmarked words ranges point all unmarked =
    by_cases (is_within ranges point) (λ h. absurd (true≢false (sym (within_marked words ranges point all h) ∙ unmarked))) (λ h. h)
