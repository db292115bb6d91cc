-- A list of one member is split in one way.
use Rattle.std.proofs.Common.{◌≡◌, List, [], ◌∷◌, ◌++◌, refl, sym}
use Rattle.uca_weights.proofs.Lists.{not_nil}

-- a list of one member is split in one way
pub only_one : {A : Type 0} (x : A) (before : List A) (y : A) (after : List A) → x ∷ [] ≡ before ++ y ∷ after →
    (before ≡ []) × (x ≡ y) × (after ≡ [])
only_one x [] y after same = let first : x ≡ y = cc in let rest : [] ≡ after = cc in (refl, first, sym rest)
only_one x (b ∷ before) y after same = let rest : [] ≡ before ++ y ∷ after = cc in absurd (not_nil before y after rest)
