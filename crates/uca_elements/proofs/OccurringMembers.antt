-- The code points at some positions of a text, and those at the others, occur in order in it.
use Rattle.std.proofs.Common.{List, [], ◌∷◌, Bool, true, false, inl, refl}
use Rattle.uca_text.specs.Texts.{Text}
use Rattle.uca_text.specs.Occurring.{OccursInOrder}
use Rattle.uca_text.proofs.Occurring.{occurs_refl, occurs_more}
use Rattle.uca_elements.specs.Reading.{members, others}

-- the code points at some positions, and those at the others
pub occurs_members : (set : List Bool) (t : Text) → OccursInOrder (members set t) t
occurs_members [] t = tt
occurs_members (b ∷ set) [] = tt
occurs_members (true ∷ set) (c ∷ t) = inl (refl, occurs_members set t)
occurs_members (false ∷ set) (c ∷ t) = occurs_more (members set t) c t (occurs_members set t)

pub occurs_others : (set : List Bool) (t : Text) → OccursInOrder (others set t) t
occurs_others [] t = occurs_refl t
occurs_others (b ∷ set) [] = tt
occurs_others (true ∷ set) (c ∷ t) = occurs_more (others set t) c t (occurs_others set t)
occurs_others (false ∷ set) (c ∷ t) = inl (refl, occurs_others set t)
