-- How a program counts the weights of a level of a stored key.
use Rattle.std.specs.Prelude.{ℕ, ◌+◌, ◌*◌, ◌-◌, List, [], ◌∷◌, Bool, ◌&&◌, not, nat_eq, if◌then◌else◌}
use Rattle.uca_compact.specs.PlainLevels.{is_lead}

-- the weight after this one is left out, if those after leads are
abbrev pub leads : (leaves_out after_lead : Bool) → ℕ → Bool
leads leaves_out after_lead w = leaves_out && (not after_lead && is_lead w)

-- a weight counts in the last of the levels that are left, unless it comes after a lead
abbrev pub counted : (left : ℕ) → (after_lead : Bool) → ℕ → ℕ
counted left after_lead w = if nat_eq left 1 && (not (nat_eq w 0) && not after_lead) then 1 else 0

-- how many weights the last of so many levels has; those after leads may be left out
abbrev pub weights_counted : (leaves_out after_lead : Bool) → (left : ℕ) → List ℕ → ℕ
weights_counted leaves_out after_lead left [] = 0
weights_counted leaves_out after_lead left (a ∷ []) = 0
weights_counted leaves_out after_lead left (a ∷ b ∷ bytes) =
    counted left after_lead (256 * a + b)
    + weights_counted leaves_out (leads leaves_out after_lead (256 * a + b)) (if nat_eq (256 * a + b) 0 then left - 1 else left) bytes
