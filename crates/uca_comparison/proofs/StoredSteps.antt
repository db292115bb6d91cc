-- The loop of `difference_level`: what is left of two slices says what the whole of them does.
use Rattle.std.proofs.Common.{◌≡◌, ℕ, ◌+◌, ◌<◌, ◌≤◌, List, [], ◌∷◌, length, Bool, true, false, refl, arith, min}
use Rattle.std.proofs.Common.{bytes_eq}
use Rattle.uca_order.specs.StoredKeys.{shared_separators}
use Rattle.uca_weights.proofs.Tests.{other_bytes}
use Rattle.uca_order.proofs.StoredOrder.{is_separator}

-- `level` counts what came before, from 1 on, up to `levels`
pub record IsLeftOf (levels level : ℕ) (left right left_rest right_rest : List ℕ) : Type 0 where
  pub level_is : min levels (level + shared_separators left_rest right_rest) ≡ min levels (1 + shared_separators left right)
  pub few : level ≤ levels

-- ---- No separator more

-- a single byte is no separator
separators_single : (a c : ℕ) → shared_separators (a ∷ []) (c ∷ []) ≡ 0
separators_single a c = at (bytes_eq (a ∷ []) (c ∷ [])) refl
  where
    alone : is_separator (a ∷ []) ≡ false
    alone = other_bytes (0 ∷ 0 ∷ []) (a ∷ []) (λ e. cc)

    at : (b : Bool) → bytes_eq (a ∷ []) (c ∷ []) ≡ b → shared_separators (a ∷ []) (c ∷ []) ≡ 0
    at true is = rw (is, alone) refl
    at false is = rw is refl

-- where the right side has no group of two bytes
pub separators_short_right : (left right : List ℕ) → length right < 2 → shared_separators left right ≡ 0
separators_short_right [] right short = refl
separators_short_right (a ∷ []) [] short = refl
separators_short_right (a ∷ b ∷ left) [] short = refl
separators_short_right (a ∷ []) (c ∷ []) short = separators_single a c
separators_short_right (a ∷ b ∷ left) (c ∷ []) short =
    let other : bytes_eq (a ∷ b ∷ []) (c ∷ []) ≡ false = other_bytes (a ∷ b ∷ []) (c ∷ []) (λ e. cc) in
    rw other refl
separators_short_right left (c ∷ d ∷ right) short = absurd (omega arith)

-- where no separator is left, the level is that of the whole
pub ends : (levels level : ℕ) (left right left_rest right_rest : List ℕ) → IsLeftOf levels level left right left_rest right_rest
    → shared_separators left_rest right_rest ≡ 0 → level ≡ min levels (1 + shared_separators left right)
ends levels level left right left_rest right_rest h none =
    let is : min levels (level + shared_separators left_rest right_rest) ≡ min levels (1 + shared_separators left right) = h.level_is in
    let few : level ≤ levels = h.few in
    omega arith
