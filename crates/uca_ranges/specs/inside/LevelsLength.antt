-- How a program finds the first levels of a stored key.
use Rattle.std.specs.Prelude.{ℕ, ◌+◌, ◌*◌, ◌-◌, List, [], ◌∷◌, Option, Some, None, option_map, nat_eq, nat_lt, if◌then◌else◌}

-- how many bytes so many levels have, if there are as many
abbrev pub levels_length : (count : ℕ) → List ℕ → Option ℕ
levels_length count [] = if nat_eq count 1 then Some 0 else None
levels_length count (a ∷ []) = None
levels_length count (a ∷ b ∷ bytes) =
    if nat_eq (256 * a + b) 0 then
    (if nat_lt count 2 then Some 0 else option_map (λ n. n + 2) (levels_length (count - 1) bytes)) else
    option_map (λ n. n + 2) (levels_length count bytes)
