-- Plain levels: what a level mostly is, after the levels before it. A compact key leaves them out.
use Rattle.std.specs.Prelude.{ℕ, zero, suc, ◌+◌, ◌-◌, List, [], ◌∷◌, ◌&&◌, length, Bool, true, false, not, nat_lt}

-- a weight, so many times
abbrev pub copies : ℕ → ℕ → List ℕ
copies w zero = []
copies w (suc n) = w ∷ copies w n

-- the first of the two weights of an implicit element
abbrev pub is_lead : ℕ → Bool
is_lead w = not (nat_lt w 0xFB00) && nat_lt w 0xFC00

-- how many weights of level 1 mostly have a weight at level 2, by whether a lead comes before them: the weight after a
-- lead is not counted
abbrev pub letters_after : (lead : Bool) → List ℕ → ℕ
letters_after lead [] = 0
letters_after true (w ∷ ws) = letters_after false ws
letters_after false (w ∷ ws) = suc (letters_after (is_lead w) ws)

abbrev pub letter_count : List ℕ → ℕ
letter_count ws = letters_after false ws

-- The plain level after these: no accent, small letters, and nothing variable. Level 4 has a weight for each weight of
-- level 3, and for each of level 1 that was not counted.
abbrev pub plain_level : (earlier : List (List ℕ)) → List ℕ
plain_level [] = []
plain_level (a ∷ []) = copies 0x20 (letter_count a)
plain_level (a ∷ b ∷ []) = copies 2 (length b)
plain_level (a ∷ b ∷ c ∷ more) = copies 0xFFFF (length c + (length a - letter_count a))
