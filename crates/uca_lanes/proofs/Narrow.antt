-- Where no byte is E0 or more, the marks say so.
use Rattle.std.proofs.Common.{◌≡◌, ℕ, zero, suc, ◌+◌, ◌*◌, ◌↔◌, Bool, cond, List, [], ◌∷◌, leb, leb-false, refl, ap₂, arith, take, drop, subst, sym, ◌<◌}
use Rattle.std.proofs.lemmas.List.{get_or-drop}
use Rattle.std.proofs.lemmas.Bool.{lt-leb}
use Rattle.uca_lanes.specs.Narrow.{AreNarrow}
use Rattle.uca_lanes.specs.inside.Marks.{marks_from}
use Rattle.uca_lanes.proofs.MaskSteps.{no_bit}

unmarked : (bytes : List ℕ) → marks_from 0xe0 bytes ≡ 0 → AreNarrow bytes
unmarked [] none k = omega arith
unmarked (x ∷ xs) none zero = leb-false 0xe0 x (no_bit (leb 0xe0 x) (marks_from 0xe0 xs) none).0
unmarked (x ∷ xs) none (suc k) = unmarked xs (no_bit (leb 0xe0 x) (marks_from 0xe0 xs) none).1 k

no_mark : (bytes : List ℕ) → AreNarrow bytes → marks_from 0xe0 bytes ≡ 0
no_mark [] narrow = refl
no_mark (x ∷ xs) narrow = ap₂ (λ (b : Bool) (n : ℕ). cond b 1 0 + 2 * n) (lt-leb 0xe0 x (narrow 0)) (no_mark xs (λ k. narrow (suc k)))

pub narrow_marks : (bytes : List ℕ) → (marks_from 0xe0 bytes ≡ 0) ↔ AreNarrow bytes
narrow_marks bytes = (unmarked bytes, no_mark bytes)

-- so it is of some of the bytes
pub narrow_take : (n : ℕ) (bytes : List ℕ) → AreNarrow bytes → AreNarrow (take n bytes)
narrow_take zero bytes narrow k = omega arith
narrow_take (suc n) [] narrow k = omega arith
narrow_take (suc n) (x ∷ xs) narrow zero = narrow 0
narrow_take (suc n) (x ∷ xs) narrow (suc k) = narrow_take n xs (λ i. narrow (suc i)) k

pub narrow_drop : (n : ℕ) (bytes : List ℕ) → AreNarrow bytes → AreNarrow (drop n bytes)
narrow_drop n bytes narrow k = subst (λ b. b < 0xe0) (sym (get_or-drop n bytes k 0)) (narrow (n + k))
